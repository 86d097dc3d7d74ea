use Rattle.std.proofs.Common.{◌≡◌, ◌++◌, length, take, drop}
use Rattle.cuts.specs.Numbers.{rounded_numbers}
use Rattle.cuts.proofs.numbers.write_rounded.Given as goal

abbrev pub invariant-loop-place : goal.invariant-loop-place
invariant-loop-place g l =
    (goal.iterator-loop-place g).can_next l.place-iterator
    × (goal.iterator-loop-place g).is_finite l.place-iterator
    × (take (length l.yielded) l.numbers ++ rounded_numbers g.E.Entry.kind l.interval (drop (length l.yielded) l.paper.entries.now) (drop (length l.yielded) l.paper.fills.now)
    ≡ rounded_numbers g.E.Entry.kind l.interval l.paper.entries.now l.paper.fills.now)
