-- What the calls keep along a run: what the history says of an interval is what its record and the sheet show.
use Rattle.std.proofs.Common.{◌≡◌, ℕ, zero, suc, ◌-◌, ◌<◌, ◌≤◌, Bool, true, false, List, ◌∷◌, length, get_or, ℤ, pos, ◌+ℤ◌, ◌-ℤ◌, sym, refl, ap, ◌∙◌, subst, arith}
use native.Mathlib.Decide.{ℕ_discrete}
use borrow.Author.Differences.{ints}
use Rattle.std.proofs.lemmas.List.{get_or-set_same, get_or-set_other}
use Rattle.ledger.specs.Model.{total}
use Rattle.market.specs.declared.records.Mark.{Mark}
use Rattle.market.specs.declared.records.Mark.TheVariants.{Unsettled, Out, Noted, Closed}
use Rattle.market.specs.declared.records.Interval.{Interval}
use Rattle.market.specs.Blank.{fresh}
use Rattle.cuts.specs.Settled.{settled_numbers, remainder_of}
use Rattle.std.proofs.Math.IntN.{*ℤ-zero, zero-*ℤ}
use Rattle.entries.specs.Amounts.{Conditions, worth}
use Rattle.engine.specs.declared.day.Day.{Day}
use Rattle.engine.specs.Days.{Recorded, record_of, conditions_of}
use Rattle.engine.specs.Steps.{Paper, State, orders_of, blocks_of}
use Rattle.runs.specs.Runs.{Event, settled, unbooked, sum_to, unbooked_worth, numbers_in}

-- an interval of the day
pub record Within (d : Day) (i : ℕ) : Type 0 where
  pub from : 1 ≤ i
  pub to : i ≤ d.count

-- the record of the interval i
abbrev pub record_at : State → ℕ → Interval
record_at s i = record_of s.day (pos i)

-- What a record shows of its interval's history: the unbooked remainder o, whether it is settled, its numbers ns in the sheet
-- (those of the cuts are cut), and the remainder that is due.
abbrev pub Agree : Mark → ℤ → ℤ → Bool → List ℕ → List ℕ → ℤ → Type 0
Agree Unsettled z o b ns cut due = (o ≡ pos 0) × (b ≡ false)
Agree Out z o b ns cut due = (o ≡ z) × (b ≡ true) × (ns ≡ cut) × (z ≡ due)
Agree Noted z o b ns cut due = (o ≡ z) × (b ≡ true) × (ns ≡ cut) × (z ≡ due)
Agree Closed z o b ns cut due = (o ≡ pos 0) × (b ≡ true) × (ns ≡ cut) × (z ≡ due)

-- the settled numbers of the interval i
abbrev pub cut_of : Paper → State → ℕ → List ℕ
cut_of p s i = settled_numbers (orders_of p) p.order_fills (blocks_of p) p.block_fills i (record_at s i).rounded

-- and the remainder that they leave
abbrev pub due_of : Paper → State → ℕ → ℤ
due_of p s i = remainder_of (orders_of p) p.order_fills (blocks_of p) p.block_fills i (record_at s i).rounded

abbrev pub AgreeAt : Paper → State → List Event → State → ℕ → Interval → Type 0
AgreeAt p s₀ h s i x = Agree x.mark x.remainder (unbooked h i) (settled h i) (numbers_in p s i) (cut_of p s₀ i) (due_of p s₀ i)

-- the worth of steps in the interval i
abbrev pub worth_at : State → ℕ → ℤ → ℤ
worth_at s i z = worth (conditions_of s.day (pos i)) z

-- what holds of s after the history h
pub record Kept (p : Paper) (s₀ : State) (h : List Event) (s : State) : Type 0 where
  pub minutes : s.day.minutes ≡ s₀.day.minutes
  pub count : s.day.count ≡ s₀.day.count
  pub price : (i : ℕ) → Within s₀.day i → (record_at s i).price ≡ (record_at s₀ i).price
  pub net : (i : ℕ) → Within s₀.day i → (record_at s i).net ≡ (record_at s₀ i).net
  pub rounded : (i : ℕ) → Within s₀.day i → (record_at s i).rounded ≡ (record_at s₀ i).rounded
  pub agree : (i : ℕ) → Within s₀.day i → AgreeAt p s₀ h s i (record_at s i)
  pub sums : total s.ledger ≡ total s₀.ledger +ℤ unbooked_worth s₀.day h

-- no steps are worth nothing
pub worth_nil : (t : Conditions) → worth t (pos 0) ≡ pos 0
worth_nil t = simp (*ℤ-zero, zero-*ℤ)

-- ---- sums
-- two sums, term by term
pub sum_same : (n : ℕ) (f g : ℕ → ℤ) → ((i : ℕ) → 1 ≤ i → i ≤ n → f i ≡ g i) → sum_to n f ≡ sum_to n g
sum_same zero f g e = refl
sum_same (suc n) f g e = omega (arith, ints, e (suc n) (omega arith) (omega arith), sum_same n f g (λ i a b. e i a (omega arith)))

module _ (f g : ℕ → ℤ) (j : ℕ) (other : (i : ℕ) → (j ≡ i → ⊥) → g i ≡ f i) where
  sum_step : (n : ℕ) → 1 ≤ j → j ≤ suc n → (j ≤ n → sum_to n g ≡ sum_to n f +ℤ (g j -ℤ f j)) → Dec (j ≡ suc n) → sum_to (suc n) g ≡ sum_to (suc n) f +ℤ (g j -ℤ f j)
  sum_step n a b ih (yes e) =
      let q : sum_to n g ≡ sum_to n f = sum_same n g f (λ i x y. other i (λ q. omega arith)) in
      omega (arith, ints, ap g e, ap f e)
  sum_step n a b ih (no ne) = omega (arith, ints, other (suc n) ne, ih (omega arith))

  -- a sum in which one term changes
  sum_one : (n : ℕ) → 1 ≤ j → j ≤ n → sum_to n g ≡ sum_to n f +ℤ (g j -ℤ f j)
  sum_one zero a b = absurd (omega arith)
  sum_one (suc n) a b = sum_step n a b (sum_one n a) (ℕ_discrete j (suc n))

-- ---- one event
agree_by : (m : Mark) (z : ℤ) (cut : List ℕ) (due : ℤ) {o o' : ℤ} {b b' : Bool} {ns ns' : List ℕ} → o ≡ o' → b ≡ b' → ns ≡ ns' → Agree m z o' b' ns' cut due → Agree m z o b ns cut due
agree_by Unsettled z cut due po pb pn (h, k) = (po ∙ h, pb ∙ k)
agree_by Out z cut due po pb pn (h, k, l, m) = (po ∙ h, pb ∙ k, pn ∙ l, m)
agree_by Noted z cut due po pb pn (h, k, l, m) = (po ∙ h, pb ∙ k, pn ∙ l, m)
agree_by Closed z cut due po pb pn (h, k, l, m) = (po ∙ h, pb ∙ k, pn ∙ l, m)

-- an event of the interval j, whose record becomes x
module _ (p : Paper) (s₀ : State) (h : List Event) (s s' : State) (e : Event) (j : ℕ) (x : Interval)
    (kept : Kept p s₀ h s) (within : Within s₀.day j)
    (day : Recorded s.day (j - 1) x s'.day)
    (same-price : x.price ≡ (record_at s j).price) (same-net : x.net ≡ (record_at s j).net) (same-rounded : x.rounded ≡ (record_at s j).rounded)
    (sheet : (i : ℕ) → Within s₀.day i → (j ≡ i → ⊥) → numbers_in p s' i ≡ numbers_in p s i)
    (open-other : (i : ℕ) → (j ≡ i → ⊥) → unbooked (e ∷ h) i ≡ unbooked h i)
    (settled-other : (i : ℕ) → (j ≡ i → ⊥) → settled (e ∷ h) i ≡ settled h i)
    (sum : total s'.ledger ≡ total s.ledger +ℤ (worth_at s₀ j (unbooked (e ∷ h) j) -ℤ worth_at s₀ j (unbooked h j)))
    (agrees : AgreeAt p s₀ (e ∷ h) s' j x) where
  here : record_at s' j ≡ x
  here =
      let lt : j - 1 < length s.day.intervals = omega (arith, s.day.sound.2, s.day.sound.3, kept.count, within.from, within.to) in
      ap (λ (xs : List Interval). get_or xs (j - 1) fresh) day.intervals ∙ get_or-set_same s.day.intervals (j - 1) x fresh lt

  there : (i : ℕ) → Within s₀.day i → (j ≡ i → ⊥) → record_at s' i ≡ record_at s i
  there i w ne =
      ap (λ (xs : List Interval). get_or xs (i - 1) fresh) day.intervals
      ∙ get_or-set_other s.day.intervals (j - 1) (i - 1) x fresh (λ q. ne (omega (arith, w.from, within.from)))

  -- a part of a record that the event leaves as it was
  part_at : (f : Interval → ℤ) → f x ≡ f (record_at s j) → ((i : ℕ) → Within s₀.day i → f (record_at s i) ≡ f (record_at s₀ i))
      → (i : ℕ) → Within s₀.day i → Dec (j ≡ i) → f (record_at s' i) ≡ f (record_at s₀ i)
  part_at f same before i w (yes q) = subst (λ (k : ℕ). f (record_at s' k) ≡ f (record_at s₀ k)) q (ap f here ∙ same ∙ before j within)
  part_at f same before i w (no ne) = ap f (there i w ne) ∙ before i w

  agree_at : (i : ℕ) → Within s₀.day i → Dec (j ≡ i) → AgreeAt p s₀ (e ∷ h) s' i (record_at s' i)
  agree_at i w (yes q) = subst (λ (k : ℕ). AgreeAt p s₀ (e ∷ h) s' k (record_at s' k)) q (subst (AgreeAt p s₀ (e ∷ h) s' j) (sym here) agrees)
  agree_at i w (no ne) =
      subst (AgreeAt p s₀ (e ∷ h) s' i) (sym (there i w ne))
      (agree_by (record_at s i).mark (record_at s i).remainder (cut_of p s₀ i) (due_of p s₀ i) (open-other i ne) (settled-other i ne) (sheet i w ne) (kept.agree i w))

  pub after_one : Kept p s₀ (e ∷ h) s'
  after_one = record {
    minutes = day.minutes ∙ kept.minutes;
    count = day.count ∙ kept.count;
    price = λ i w. part_at (λ (r : Interval). r.price) same-price kept.price i w (ℕ_discrete j i);
    net = λ i w. part_at (λ (r : Interval). r.net) same-net kept.net i w (ℕ_discrete j i);
    rounded = λ i w. part_at (λ (r : Interval). r.rounded) same-rounded kept.rounded i w (ℕ_discrete j i);
    agree = λ i w. agree_at i w (ℕ_discrete j i);
    sums =
        let o = sum_one (λ i. worth_at s₀ i (unbooked h i)) (λ i. worth_at s₀ i (unbooked (e ∷ h) i)) j (λ i ne. ap (worth_at s₀ i) (open-other i ne)) s₀.day.count within.from within.to in
        omega (arith, ints, kept.sums, sum);
  }
