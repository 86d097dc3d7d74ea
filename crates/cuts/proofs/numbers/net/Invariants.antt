use Rattle.std.proofs.Common.{◌≡◌, ◌*◌, length, drop, ◌+ℤ◌}
use Rattle.market.specs.Signed.{Within}
use Rattle.cuts.specs.Numbers.{net}
use Rattle.cuts.proofs.numbers.net.Given as goal

abbrev pub invariant-loop-entry : goal.invariant-loop-entry
invariant-loop-entry g l =
    (goal.iterator-loop-entry g).can_next l.entry-iterator
    × (goal.iterator-loop-entry g).is_finite l.entry-iterator
    × ((l.sum +ℤ net g.E.Entry.kind (drop (length l.yielded) l.entries) (drop (length l.yielded) l.numbers)) ≡ net g.E.Entry.kind l.entries l.numbers)
    × Within (4294967296 * length l.yielded) l.sum
