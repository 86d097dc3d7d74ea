-- What it says that a day shows an interval.
use Rattle.std.proofs.Common.{◌≡◌, ℕ, Bool, true, false, cond, ◌&&◌, ℤ, pos, negsuc, ◌≤ℤ◌, nat_abs, w32, Fits, refl, sym, ap, ◌∙◌, Ok, arith, rules}
use lib.Dec.{T}
use lib.Signed.{non_neg}
use Rattle.std.specs.Prelude.{Some, None}
use borrow.Author.Differences.{ints, abs_is}
use Rattle.market.specs.declared.records.Interval.{Interval}
use Rattle.market.specs.Bounds.{same, in_day}
use Rattle.market.proofs.Facts.{between_two}
use Rattle.engine.specs.declared.day.Day.{Day}
use Rattle.engine.specs.Days.{record_of, shown}
use Rattle.engine.specs.Marks.{is_out, is_noted, shows_out, take_answer}

not_below : (i : ℤ) → pos 1 ≤ℤ i → T (non_neg i)
not_below (pos n) h = search rules
not_below (negsuc n) h = absurd (omega (arith, ints))

-- the number of an interval of the day is a u32
pub number_fits : (d : Day) (i : ℤ) → in_day d.count i ≡ true → T (non_neg i) × Fits w32 (nat_abs i)
number_fits d i e =
    let b = between_two (pos 1) i (pos d.count) e in
    let most = d.sound.2 in
    (not_below i b.0, omega (arith, ints, abs_is i))

-- a record that the day shows: the day has the interval, and it is its record
pub shown_some : (d : Day) (i : ℤ) (x : Interval) → Some x ≡ shown d i → (in_day d.count i ≡ true) × (x ≡ record_of d i)
shown_some d i x e = by_test (in_day d.count i) refl e where
  by_test : (b : Bool) → b ≡ in_day d.count i → Some x ≡ cond b (Some (record_of d i)) None → (in_day d.count i ≡ true) × (x ≡ record_of d i)
  by_test true is e = (sym is, cc)
  by_test false is e = let n : ◌≡◌ {A = ℕ} 0 1 = cc in absurd (omega arith)

-- of a record that is out the remainder decides
pub shows_same : (d : Day) (i z : ℤ) (x : Interval) → Some x ≡ shown d i → is_out x.mark ≡ true → shows_out d i z ≡ same x.remainder z
shows_same d i z x e out =
    let s = shown_some d i x e in
    ap (λ (b : Bool). b && (is_out (record_of d i).mark && same (record_of d i).remainder z)) s.0
    ∙ ap (λ (y : Interval). is_out y.mark && same y.remainder z) (sym s.1)
    ∙ ap (λ (b : Bool). b && same x.remainder z) out

-- a noted one can be taken up
pub taken : (d : Day) (i : ℤ) (x : Interval) → Some x ≡ shown d i → is_noted x.mark ≡ true → take_answer d i ≡ Ok tt
taken d i x e noted =
    let s = shown_some d i x e in
    let there : is_noted (record_of d i).mark ≡ true = ap (λ (y : Interval). is_noted y.mark) (sym s.1) ∙ noted in
    rw (s.0, there)
