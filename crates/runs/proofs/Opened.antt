-- What a day shows as open is what the history has unbooked.
use Rattle.std.proofs.Common.{◌≡◌, ℕ, zero, suc, ◌-◌, ◌≤◌, Bool, cond, ◌||◌, List, [], ◌∷◌, ◌++◌, length, get_or, take, ℤ, pos, ◌+ℤ◌, ◌*ℤ◌, sym, refl, ap, ◌∙◌, arith}
use borrow.Author.Differences.{ints}
use Rattle.std.proofs.Math.Seq.{take-suc}
use Rattle.std.proofs.lemmas.List.{get_or-take, take_all}
use Rattle.market.specs.declared.records.Mark.{Mark}
use Rattle.market.specs.declared.records.Mark.TheVariants.{Unsettled, Out, Noted, Closed}
use Rattle.market.specs.declared.records.Interval.{Interval}
use Rattle.market.specs.Blank.{fresh}
use Rattle.entries.specs.Amounts.{Conditions, worth}
use Rattle.engine.specs.Days.{records, conditions_in, conditions_of, quarters_of}
use Rattle.engine.specs.Marks.{is_out, is_noted}
use Rattle.engine.specs.Booking.{open_part, open_sum, open_worth}
use Rattle.engine.specs.Steps.{Paper, State}
use Rattle.engine.proofs.Opens.{count_records}
use Rattle.runs.specs.Runs.{Event, unbooked, settled, sum_to, unbooked_worth, numbers_in}
use Rattle.runs.proofs.Kept.{Within, record_at, Agree, cut_of, due_of, worth_at, Kept, worth_nil, sum_same}

-- the parts of one more record
open_more : (minutes : ℤ) (xs : List Interval) (x : Interval) → open_sum minutes (xs ++ x ∷ []) ≡ open_sum minutes xs +ℤ open_part minutes x
open_more minutes [] x = omega (arith, ints)
open_more minutes (y ∷ xs) x = let e = open_more minutes xs x in omega (arith, ints)

-- the parts of the first records, added up by their numbers
open_by : (minutes : ℤ) (xs : List Interval) (n : ℕ) → n ≤ length xs → open_sum minutes (take n xs) ≡ sum_to n (λ i. open_part minutes (get_or xs (i - 1) fresh))
open_by minutes xs zero h = refl
open_by minutes xs (suc n) h =
    let at : suc n - 1 ≡ n = omega arith in
    let e = open_by minutes xs n (omega arith) in
    ap (open_sum minutes) (take-suc xs n fresh h) ∙ open_more minutes (take n xs) (get_or xs n fresh)
    ∙ ap (λ z. z +ℤ open_part minutes (get_or xs n fresh)) e
    ∙ ap (λ k. sum_to n (λ i. open_part minutes (get_or xs (i - 1) fresh)) +ℤ open_part minutes (get_or xs k fresh)) (sym at)

-- what is unbooked, by the mark of a record
part_by : (m : Mark) (owed : ℤ) (c : Conditions) (z o : ℤ) (b : Bool) (ns cut : List ℕ) (due : ℤ) → owed ≡ worth c z → Agree m z o b ns cut due → cond (is_out m || is_noted m) owed (pos 0) ≡ worth c o
part_by Unsettled owed c z o b ns cut due e g = sym (ap (worth c) g.0 ∙ worth_nil c)
part_by Out owed c z o b ns cut due e g = e ∙ ap (worth c) (sym g.0)
part_by Noted owed c z o b ns cut due e g = e ∙ ap (worth c) (sym g.0)
part_by Closed owed c z o b ns cut due e g = sym (ap (worth c) g.0 ∙ worth_nil c)

module _ (p : Paper) (s₀ : State) (h : List Event) (s : State) (kept : Kept p s₀ h s) where
  -- of an interval the day shows what is unbooked
  part_is : (i : ℕ) → Within s₀.day i → open_part s.day.minutes (record_at s i) ≡ worth_at s₀ i (unbooked h i)
  part_is i w =
      let x = record_at s i in
      let z : ℤ = x.remainder in
      let same : worth (conditions_in s.day.minutes x) z ≡ worth_at s₀ i z =
      ap (λ (v : ℤ). (v *ℤ z) *ℤ pos (quarters_of s.day.minutes)) (kept.price i w) ∙ ap (λ (v : ℤ). ((record_at s₀ i).price *ℤ z) *ℤ pos (quarters_of v)) kept.minutes in
      part_by x.mark (worth (conditions_in s.day.minutes x) z) (conditions_of s₀.day (pos i)) z (unbooked h i) (settled h i) (numbers_in p s i) (cut_of p s₀ i) (due_of p s₀ i) same (kept.agree i w)

  part_at : (i : ℕ) → 1 ≤ i → i ≤ s₀.day.count → open_part s.day.minutes (get_or (records s.day) (i - 1) fresh) ≡ worth_at s₀ i (unbooked h i)
  part_at i lo hi =
      let w : Within s₀.day i = record { from = lo; to = hi } in
      ap (open_part s.day.minutes) (get_or-take s.day.count s.day.intervals (i - 1) fresh (omega (arith, kept.count))) ∙ part_is i w

  pub shown_is : open_worth s.day ≡ unbooked_worth s₀.day h
  shown_is =
      let d = s.day in
      let long = count_records d in
      ap (open_sum d.minutes) (sym (take_all d.count (records d) (omega arith)))
      ∙ open_by d.minutes (records d) d.count (omega arith)
      ∙ ap (λ n. sum_to n (λ i. open_part d.minutes (get_or (records d) (i - 1) fresh))) kept.count
      ∙ sum_same s₀.day.count (λ i. open_part d.minutes (get_or (records d) (i - 1) fresh)) (λ i. worth_at s₀ i (unbooked h i)) part_at
