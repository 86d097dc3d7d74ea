use Rattle.std.proofs.Common.{sym, ◌∙◌}
use Rattle.entries.specs.Settles.{settlement}
use Rattle.entries.proofs.Readiness.{ready_from}
use Rattle.entries.proofs.Moving.{moved}
use Rattle.entries.proofs.settling.settle_interval.Goals as goal

pub returns-clause-moves : goal.returns-clause-moves
returns-clause-moves g c =
    moved (settlement c.args.book c.args.fills c.args.intervals c.args.interval c.args.terms) _ (ready_from _ _ (sym c.check.ensures ∙ c.in_ok-check.was)) _ _ _ _ _
    c.settle.ensures.answers c.settle.ensures.posts c.settle.ensures.writes
