-- The calls in any sequence, and what holds after each of them.
use Rattle.std.specs.Prelude.{◌≡◌, ℕ, zero, suc, ◌≤◌, Bool, true, false, cond, ◌↔◌, List, [], ◌∷◌, length, take, drop, ℤ, pos, ◌+ℤ◌, unsigned_abs}
use Rattle.ledger.specs.Model.{total}
use Rattle.market.specs.Bounds.{same}
use Rattle.market.specs.declared.records.Mark.TheVariants.{Unsettled}
use Rattle.verdict.specs.Passes.{LawfulBook, Passes}
use Rattle.verdict.specs.Best.{Best}
use Rattle.market.specs.Kinds.{orders, blocks}
use Rattle.cuts.specs.Numbers.{net}
use Rattle.cuts.specs.Settled.{gap_of}
use Rattle.cuts.specs.SettledLaws.{open_cuts_of}
use Rattle.entries.specs.Amounts.{worth}
use Rattle.entries.specs.Sheet.{sheet_numbers}
use Rattle.engine.specs.declared.day.Day.{Day}
use Rattle.engine.specs.declared.call.Call.{Call}
use Rattle.engine.specs.declared.call.Call.TheVariants.{Settle, Book, Note, TakeUp, Void}
use Rattle.engine.specs.declared.call.Outcome.{Outcome}
use Rattle.engine.specs.declared.call.Outcome.TheVariants.{Accepted, Refused}
use Rattle.engine.specs.Days.{records, record_of, conditions_of}
use Rattle.entries.specs.Settles.{WorkLengths}
use Rattle.engine.specs.Booking.{open_worth}
use Rattle.engine.specs.Steps.{Paper, State, orders_of, blocks_of, Takes}

-- ---- a run

-- a call with its outcome
pub record Event : Type 0 where
  pub call : Call
  pub outcome : Outcome

-- such an event
abbrev pub event_of : Call → Outcome → Event
event_of c o = record { call = c; outcome = o }

-- one call, with working slices of any lengths
pub record Step (p : Paper) (s : State) (e : Event) (s' : State) : Type 0 where
  pub work : WorkLengths
  pub takes : Takes p work s e.call e.outcome s'

-- any sequence of calls, each on what the one before it left, with its history, the newest first
pub data Run (p : Paper) (s₀ : State) : List Event → State → Type 0 where
  start : Run p s₀ [] s₀
  next : {h : List Event} {s : State} {e : Event} {s' : State} → Run p s₀ h s → Step p s e s' → Run p s₀ (e ∷ h) s'

-- ---- by the history

-- whether the interval i is settled after a call, if it was or was not before: from an accepted settle of it to an accepted void
abbrev pub settled_by : Outcome → Call → ℕ → Bool → Bool
settled_by (Refused e) c i before = before
settled_by (Accepted z) (Settle j) i before = cond (same j (pos i)) true before
settled_by (Accepted z) (Book j steps) i before = before
settled_by (Accepted z) (Note j steps) i before = before
settled_by (Accepted z) (TakeUp j) i before = before
settled_by (Accepted z) (Void j) i before = cond (same j (pos i)) false before

-- whether the interval i is settled
abbrev pub settled : List Event → ℕ → Bool
settled [] i = false
settled (e ∷ h) i = settled_by e.outcome e.call i (settled h i)

-- the unbooked remainder of the interval i after a call: from the accepted settle that hands it over to an accepted book or void
abbrev pub unbooked_by : Outcome → Call → ℕ → ℤ → ℤ
unbooked_by (Refused e) c i before = before
unbooked_by (Accepted z) (Settle j) i before = cond (same j (pos i)) z before
unbooked_by (Accepted z) (Book j steps) i before = cond (same j (pos i)) (pos 0) before
unbooked_by (Accepted z) (Note j steps) i before = before
unbooked_by (Accepted z) (TakeUp j) i before = before
unbooked_by (Accepted z) (Void j) i before = cond (same j (pos i)) (pos 0) before

-- the unbooked remainder of the interval i, 0 where there is none
abbrev pub unbooked : List Event → ℕ → ℤ
unbooked [] i = pos 0
unbooked (e ∷ h) i = unbooked_by e.outcome e.call i (unbooked h i)

-- f at 1, 2, .. n added up
abbrev pub sum_to : ℕ → (ℕ → ℤ) → ℤ
sum_to zero f = pos 0
sum_to (suc n) f = sum_to n f +ℤ f (suc n)

-- the worths of the unbooked remainders of a day, added up
abbrev pub unbooked_worth : Day → List Event → ℤ
unbooked_worth d h = sum_to d.count (λ i. worth (conditions_of d (pos i)) (unbooked h i))

-- ---- the law

module _ (p : Paper) where
  -- the numbers of the interval i in the sheet: those of the orders, then those of the blocks
  abbrev pub numbers_in : State → ℕ → List ℕ
  numbers_in s i = sheet_numbers (orders_of p) (blocks_of p) s.day.count i s.sheet

  -- settled sells less settled buys of the interval i, by its numbers in the sheet
  abbrev pub sold : State → ℕ → ℤ
  sold s i = net orders (orders_of p) (take (length (orders_of p)) (numbers_in s i)) +ℤ net blocks (blocks_of p) (drop (length (orders_of p)) (numbers_in s i))

  -- R of the interval i
  abbrev pub rounded_of : State → ℕ → ℤ
  rounded_of s i = (record_of s.day (pos i)).rounded

  -- the open cuts of the interval i reach its gap
  abbrev pub CutsReach : State → ℕ → Type 0
  CutsReach s i =
      unsigned_abs (gap_of (orders_of p) p.order_fills (blocks_of p) p.block_fills i (rounded_of s i))
      ≤ open_cuts_of (orders_of p) p.order_fills (blocks_of p) p.block_fills i (rounded_of s i)

  -- What holds of a state s that the calls of the history h have made of s₀.
  pub record Law (s₀ : State) (h : List Event) (s : State) : Type 0 where
    -- In every settled interval, settled sells less settled buys equal R exactly when the open cuts reach the gap.
    pub balance : (i : ℕ) → 1 ≤ i → i ≤ s₀.day.count → settled h i ≡ true → (sold s i ≡ rounded_of s i) ↔ CutsReach s i
    -- The sum of all balances is the sum at the start plus the worths of the unbooked remainders.
    pub accounts : total s.ledger ≡ total s₀.ledger +ℤ unbooked_worth s₀.day h
    -- These worths are what the day shows as open.
    pub shown : open_worth s.day ≡ unbooked_worth s₀.day h
    -- The paper has the greatest welfare.
    pub welfare : Best (records s.day) (orders_of p) p.order_fills (blocks_of p) p.block_fills

  -- the paper passes on the day
  pub record PassesOn (d : Day) : Type 0 where
    pub lawful : LawfulBook d.count (orders_of p) (blocks_of p)
    pub rules : Passes (records d) (orders_of p) p.order_fills (blocks_of p) p.block_fills

  -- every run from here keeps the law, after each of its calls
  abbrev pub EveryRunLawful : State → Type 0
  EveryRunLawful s₀ = (h : List Event) (s : State) → Run p s₀ h s → Law s₀ h s

-- nothing is settled: all marks are unsettled
abbrev pub NothingSettled : Day → Type 0
NothingSettled d = (i : ℕ) → 1 ≤ i → i ≤ d.count → (record_of d (pos i)).mark ≡ Unsettled

-- from where a paper passed and nothing is settled, every run keeps the law
abbrev pub LawOverRuns : Type 0
LawOverRuns = (p : Paper) (s₀ : State) → PassesOn p s₀.day → NothingSettled s₀.day → EveryRunLawful p s₀
