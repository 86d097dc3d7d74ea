use Rattle.std.proofs.lemmas.Bool.{both_ways}
use Rattle.engine.specs.Marks.{any_out}
use Rattle.runs.proofs.Noting.{none_out}
use Rattle.runs.proofs.calls.close.Goals as goal

pub unreachable-requires : goal.unreachable-requires
unreachable-requires c =
    let d = c.note_rest.new.running.day in
    both_ways (any_out d) (none_out c.args.running.day d c.note_rest.ensures.noted) c.in-Err.ensures.0
