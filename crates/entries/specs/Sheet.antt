-- The sheet: one number for each order, then a row for each block with one number for each interval of the day.
use Rattle.std.specs.Prelude.{ℕ, zero, suc, ◌+◌, ◌-◌, ◌*◌, ◌<◌, ◌≤◌, Bool, cond, List, map, length, nat_lt, slice_index, slice_index_or, slice_set}
use Rattle.std.specs.List.{range_with_len}
use Rattle.market.specs.declared.records.Order.{Order}
use Rattle.market.specs.declared.records.Block.{Block}
use Rattle.market.specs.Blank.{no_order, no_block}
use Rattle.market.specs.Kinds.{orders, blocks}

-- whether the entry at a place, from 0, is of the interval i: the orders, then the blocks
abbrev pub of_interval : List Order → List Block → ℕ → ℕ → Bool
of_interval os bs i k = cond (nat_lt k (length os)) (orders.covers (slice_index_or os k no_order) i) (blocks.covers (slice_index_or bs (k - length os) no_block) i)

-- where the row of the entry at k begins, of a book with o orders in a day of n intervals
abbrev pub row_of : ℕ → ℕ → ℕ → ℕ
row_of o n k = o + (k - o) * n

-- where the sheet has the number of the entry at k in the interval i
abbrev pub place_of : ℕ → ℕ → ℕ → ℕ → ℕ
place_of o n i k = cond (nat_lt k o) k (row_of o n k + (i - 1))

-- a sheet with the values v of those of the first m entries that pass a test written at their places
abbrev pub written : (ℕ → ℕ) → (ℕ → Bool) → (ℕ → ℕ) → ℕ → List ℕ → List ℕ
written place passes v zero s = s
written place passes v (suc m) s = cond (passes m) (slice_set (written place passes v m s) (place m) (v m)) (written place passes v m s)

-- the sheet with the numbers ns of the entries of the interval i written, in a day of n intervals
unfoldable pub sheet_with : List Order → List Block → ℕ → ℕ → List ℕ → List ℕ → List ℕ
sheet_with os bs n i ns s = written (place_of (length os) n i) (of_interval os bs i) (λ k. slice_index ns k) (length os + length bs) s

-- the same with these numbers zeroed
unfoldable pub sheet_without : List Order → List Block → ℕ → ℕ → List ℕ → List ℕ
sheet_without os bs n i s = written (place_of (length os) n i) (of_interval os bs i) (λ k. 0) (length os + length bs) s

-- the number that the sheet s has for the entry at k in the interval i: 0 for an entry that is not of it
abbrev pub sheet_number : List Order → List Block → ℕ → ℕ → List ℕ → ℕ → ℕ
sheet_number os bs n i s k = cond (of_interval os bs i k) (slice_index s (place_of (length os) n i k)) 0

-- the numbers of the interval i in the sheet s, by entry
unfoldable pub sheet_numbers : List Order → List Block → ℕ → ℕ → List ℕ → List ℕ
sheet_numbers os bs n i s = map (sheet_number os bs n i s) (range_with_len 0 (length os + length bs))

-- an interval of a day of n, and a sheet that has a number for each of o orders and a row for each of b blocks
pub record Laid (o b n i size : ℕ) : Type 0 where
  pub from : 1 ≤ i
  pub to : i ≤ n
  pub room : o + b * n ≤ size

-- the entry at k has its place in a sheet of that size
pub record Fits (o n i k size : ℕ) : Type 0 where
  pub from : 1 ≤ i
  pub to : i ≤ n
  pub order : k < o → k < size
  pub row : o ≤ k → row_of o n k + n ≤ size
