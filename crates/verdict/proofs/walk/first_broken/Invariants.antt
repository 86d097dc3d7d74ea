use Rattle.std.proofs.Common.{◌≡◌, ◌+◌, length}
use Rattle.std.specs.Iterator.Adapters.{enumerate_source, enumerate_count, zip_first, zip_second}
use Rattle.std.specs.Slice.Iter.{iter_rest}
use Rattle.std.specs.List.{AllZip}
use Rattle.verdict.specs.Walks.{first_filled}
use Rattle.verdict.proofs.walk.first_broken.Given as goal

-- the entries and fills that are left: their first refusal is that of all
abbrev pub invariant-loop-i : goal.invariant-loop-i
invariant-loop-i g l =
    let i = enumerate_count l.i-iterator in
    let xs = iter_rest (zip_first (enumerate_source l.i-iterator)) in
    let fs = iter_rest (zip_second (enumerate_source l.i-iterator)) in
    (goal.iterator-loop-i g).can_next l.i-iterator
    × (goal.iterator-loop-i g).is_finite l.i-iterator
    × (i + length xs ≡ length l.entries)
    × AllZip (g.R.Rule.may l.rule) xs fs
    × (first_filled (g.R.Rule.answer l.rule) xs fs (l.first + i)
    ≡ first_filled (g.R.Rule.answer l.rule) l.entries l.fills l.first)
