-- What settling and voiding come to, in words.
use Rattle.std.specs.Prelude.{◌≡◌, ℕ, ◌+◌, ◌<◌, ◌≤◌, true, List, ◌++◌, length, ℤ, ◌-ℤ◌, ◌≢◌, slice_index}
use Rattle.market.specs.declared.records.Order.{Order}
use Rattle.market.specs.declared.records.Block.{Block}
use Rattle.cuts.specs.Settled.{balance, settled_numbers}
use Rattle.posting.specs.Postings.{amounts}
use Rattle.entries.specs.Amounts.{Conditions, worth, settle_postings, void_postings}
use Rattle.entries.specs.Sheet.{of_interval, place_of, sheet_with, sheet_without, sheet_numbers, Laid}

-- the amounts of an interval's postings add up to the worth of sells less buys less R
abbrev pub SettlingAddsUp : Type 0
SettlingAddsUp =
    (os : List Order) (bs : List Block) (ns ms : List ℕ) (t : Conditions) → length ns ≡ length os → length ms ≡ length bs
    → amounts (settle_postings os bs (ns ++ ms) t) ≡ worth t (balance os bs ns ms t.rounded)

-- two numbers of the sheet have one place only if they are of one entry, and of one interval where that is a block
abbrev pub PlacesApart : Type 0
PlacesApart =
    (o n i j k l : ℕ) → 1 ≤ i → i ≤ n → 1 ≤ j → j ≤ n → place_of o n i k ≡ place_of o n j l → (k ≡ l) × (o ≤ k → i ≡ j)

-- of a sheet s with the numbers ns of the entries of the interval i written, s' is what it reads
pub record Reads (os : List Order) (bs : List Block) (n i : ℕ) (ns s s' : List ℕ) : Type 0 where
  pub size : length s' ≡ length s
  -- each entry of the interval has its number
  pub here : (k : ℕ) → k < length os + length bs → of_interval os bs i k ≡ true → slice_index s' (place_of (length os) n i k) ≡ slice_index ns k
  -- and every other place is as it was
  pub elsewhere : (p : ℕ) → ((k : ℕ) → k < length os + length bs → of_interval os bs i k ≡ true → place_of (length os) n i k ≢ p) → slice_index s' p ≡ slice_index s p

-- what was written reads back
abbrev pub ReadsBack : Type 0
ReadsBack =
    (os : List Order) (bs : List Block) (n i : ℕ) (ns s : List ℕ) → Laid (length os) (length bs) n i (length s)
    → Reads os bs n i ns s (sheet_with os bs n i ns s)

-- the amounts of voiding add up to the worth of the remainder less that of sells less buys less R
abbrev pub VoidingAddsUp : Type 0
VoidingAddsUp =
    (os : List Order) (bs : List Block) (ns ms : List ℕ) (t : Conditions) (steps : ℤ) → length ns ≡ length os → length ms ≡ length bs
    → amounts (void_postings os bs (ns ++ ms) t steps) ≡ worth t steps -ℤ worth t (balance os bs ns ms t.rounded)

-- where the settled numbers of an interval were written, its numbers in the sheet are those
abbrev pub SettledReadsBack : Type 0
SettledReadsBack =
    (os : List Order) (fs : List ℕ) (bs : List Block) (gs : List ℕ) (n i : ℕ) (r : ℤ) (s : List ℕ)
    → length fs ≡ length os → length gs ≡ length bs → Laid (length os) (length bs) n i (length s)
    → sheet_numbers os bs n i (sheet_with os bs n i (settled_numbers os fs bs gs i r) s) ≡ settled_numbers os fs bs gs i r

-- and the numbers of every other interval are as they were, whatever was written
abbrev pub OthersAsTheyWere : Type 0
OthersAsTheyWere =
    (os : List Order) (bs : List Block) (n i j : ℕ) (ns s : List ℕ) → Laid (length os) (length bs) n i (length s) → 1 ≤ j → j ≤ n → (i ≢ j)
    → sheet_numbers os bs n j (sheet_with os bs n i ns s) ≡ sheet_numbers os bs n j s

-- and so they are where those of one interval are zeroed
abbrev pub OthersWhenZeroed : Type 0
OthersWhenZeroed =
    (os : List Order) (bs : List Block) (n i j : ℕ) (s : List ℕ) → Laid (length os) (length bs) n i (length s) → 1 ≤ j → j ≤ n → (i ≢ j)
    → sheet_numbers os bs n j (sheet_without os bs n i s) ≡ sheet_numbers os bs n j s
