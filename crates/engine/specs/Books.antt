-- The book: what the calls of an open and of a closed book answer, and what they leave.
use Rattle.std.specs.Prelude.{◌≡◌, ℕ, ◌+◌, Bool, ◌&&◌, List, [], ◌∷◌, length, ℤ, Ok, Err, Result, nat_le, nat_lt, slice_set, unsigned_abs}
use Rattle.market.specs.declared.records.Order.{Order}
use Rattle.market.specs.declared.records.Block.{Block}
use Rattle.market.specs.declared.refusal.Refusal.{Refusal}
use Rattle.market.specs.declared.refusal.Refusal.TheVariants.{Full}
use Rattle.market.specs.First.{tests}
use Rattle.std.specs.Result.{result_and}
use Rattle.market.specs.Bounds.{start_bounds}
use Rattle.engine.specs.declared.day.Day.{Day}
use Rattle.engine.specs.declared.book.Counts.{Counts}
use Rattle.engine.specs.declared.book.Open.{Open}
use Rattle.engine.specs.Days.{Fresh, Recorded, place_of, record_of, with_terms}

-- what start answers: a fresh day and an empty open book, or the foremost refusal
abbrev pub Started : ℤ → ℤ → Result (Day × Open) Refusal → Type 0
Started minutes count (Ok (day, book)) =
    (start_bounds minutes count ≡ Ok tt) × Fresh minutes (unsigned_abs count) day × (book.counts.orders ≡ 0) × (book.counts.blocks ≡ 0)
Started minutes count (Err e) = start_bounds minutes count ≡ Err e

-- what terms leaves: one record changed, or after a refusal the day as it was
abbrev pub Termed : Day → ℤ → ℤ → ℤ → ℤ → Result Unit Refusal → Day → Type 0
Termed d i price net rounded (Ok _) d' = Recorded d (place_of i) (with_terms (record_of d i) price net rounded) d'
Termed d i price net rounded (Err e) d' = d' ≡ d

-- 6: room for one more record in a memory of so many, of which count are used, and at most most may be
abbrev pub room : ℕ → ℕ → ℕ → Result Unit Refusal
room count memory most = tests ((nat_lt count memory && nat_lt count most, Full) ∷ [])

-- the number of the record that is entered after count others, or why it is not
abbrev pub entry : Result Unit Refusal → ℕ → ℕ → ℕ → Result ℕ Refusal
entry bounds count memory most = result_and bounds (result_and (room count memory most) (Ok (count + 1)))

-- what entering leaves of a count and a memory: one record more, or after a refusal both as they were
abbrev pub Entered : {X : Type 0} → Result ℕ Refusal → X → ℕ → List X → ℕ → List X → Type 0
Entered (Ok number) x count memory count' memory' = (count' ≡ number) × (memory' ≡ slice_set memory count x)
Entered (Err e) x count memory count' memory' = (count' ≡ count) × (memory' ≡ memory)

-- neither memory is shorter than its count
abbrev pub holds : Counts → List Order → List Block → Bool
holds c os bs = nat_le c.orders (length os) && nat_le c.blocks (length bs)
