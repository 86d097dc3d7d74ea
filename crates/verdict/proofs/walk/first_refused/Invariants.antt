use Rattle.std.proofs.Common.{◌≡◌, ◌+◌, drop}
use Rattle.verdict.specs.Walks.{first_in}
use Rattle.verdict.proofs.walk.first_refused.Given as goal

abbrev pub invariant-loop-i : goal.invariant-loop-i
invariant-loop-i g l =
    first_in (g.C.Check.answer l.check) (drop l.i l.records) (l.first + l.i)
    ≡ first_in (g.C.Check.answer l.check) l.records l.first
