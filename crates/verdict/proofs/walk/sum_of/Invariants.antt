use Rattle.std.proofs.Common.{◌≡◌, ◌+◌, ◌*◌, length, ◌+ℤ◌}
use Rattle.std.specs.Iterator.Adapters.{zip_first, zip_second}
use Rattle.std.specs.Slice.Iter.{iter_rest}
use Rattle.market.specs.Signed.{Within}
use Rattle.std.specs.List.{AllZip}
use Rattle.verdict.specs.Sums.{sum_filled}
use Rattle.verdict.proofs.walk.sum_of.Given as goal

-- the entries and fills that are left: what they come to completes the sum
abbrev pub invariant-loop-x : goal.invariant-loop-x
invariant-loop-x g l =
    let xs = iter_rest (zip_first l.x-iterator) in
    let fs = iter_rest (zip_second l.x-iterator) in
    (goal.iterator-loop-x g).can_next l.x-iterator
    × (goal.iterator-loop-x g).is_finite l.x-iterator
    × (length l.yielded + length xs ≡ length l.entries)
    × AllZip (g.M.Amount.may l.amounts) xs fs
    × ((l.sum +ℤ sum_filled (g.M.Amount.gives l.amounts) xs fs) ≡ sum_filled (g.M.Amount.gives l.amounts) l.entries l.fills)
    × Within (40000000000000 * length l.yielded) l.sum
