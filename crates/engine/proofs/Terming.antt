-- The terms of a record of a day are within the bounds of settling.
use Rattle.std.proofs.Common.{◌≡◌, ℕ, ◌/◌, true, ◌&&◌, ◌||◌, ℤ, pos, ◌-ℤ◌, ◌*ℤ◌, neg_ℤ, nat_abs, ◌≤ℤ◌, Ok, sym, ap, ◌∙◌, ⊎_elim, arith}
use lib.Signed.{le_z, lt_z}
use borrow.Author.Differences.{ints}
use Rattle.std.proofs.lemmas.Bool.{and_parts, and_from, or_cases}
use Rattle.market.specs.declared.records.Interval.{Interval}
use Rattle.market.specs.Bounds.{same, within_range, minutes_ok, in_day, price_ok, net_ok, terms_table, terms_bounds}
use Rattle.market.proofs.Facts.{tests_out, between_two, same_true}
use Rattle.entries.specs.Lawful.{rounded_ok, quarters_ok}
use Rattle.engine.specs.Sound.{terms_lawful}

within_from : (low high z : ℤ) → low ≤ℤ z → z ≤ℤ high → within_range low high z ≡ true
within_from low high z a b = and_from (le_z low z) (le_z z high) (sym (omega (arith, ints))) (sym (omega (arith, ints)))

rounded-lawful : (net rounded : ℤ) → net_ok net rounded ≡ true → rounded_ok rounded ≡ true
rounded-lawful net rounded e =
    let p = and_parts (within_range (neg_ℤ (pos 1100000000)) (pos 1100000000) net) (lt_z (neg_ℤ (pos 100)) ((pos 100 *ℤ rounded) -ℤ net) && lt_z ((pos 100 *ℤ rounded) -ℤ net) (pos 100)) e in
    let n = between_two (neg_ℤ (pos 1100000000)) net (pos 1100000000) p.0 in
    let q = and_parts (lt_z (neg_ℤ (pos 100)) ((pos 100 *ℤ rounded) -ℤ net)) (lt_z ((pos 100 *ℤ rounded) -ℤ net) (pos 100)) p.1 in
    within_from (neg_ℤ (pos 11000000)) (pos 11000000) rounded (omega (arith, ints)) (omega (arith, ints))

pub terms_bounded : (x : Interval) → terms_lawful x ≡ true → (price_ok x.price ≡ true) × (rounded_ok x.rounded ≡ true)
terms_bounded x e =
    let p = and_parts (price_ok x.price) (net_ok x.net x.rounded) e in
    (p.0, rounded-lawful x.net x.rounded p.1)

pub quarters-lawful : (m : ℤ) → minutes_ok m ≡ true → quarters_ok (nat_abs m / 15) ≡ true
quarters-lawful m e =
    ⊎_elim (λ p. ap (λ (z : ℤ). quarters_ok (nat_abs z / 15)) (same_true m (pos 15) p))
    (λ r. ⊎_elim (λ p. ap (λ (z : ℤ). quarters_ok (nat_abs z / 15)) (same_true m (pos 30) p)) (λ p. ap (λ (z : ℤ). quarters_ok (nat_abs z / 15)) (same_true m (pos 60) p)) (or_cases (same m (pos 30)) (same m (pos 60)) r))
    (or_cases (same m (pos 15)) (same m (pos 30) || same m (pos 60)) e)

-- terms that are not refused: the day has the interval, and a record with them is lawful
pub passed_terms : (n m : ℕ) (i price net rounded : ℤ) → m ≡ n → Ok tt ≡ terms_bounds m i price net rounded
    → (in_day n i ≡ true) × ((price_ok price && net_ok net rounded) ≡ true)
passed_terms n m i price net rounded e h =
    let t = tests_out (terms_table m i price net rounded) (sym h) in
    (ap (λ (k : ℕ). in_day k i) (sym e) ∙ t.0, and_from (price_ok price) (net_ok net rounded) t.1.0 t.1.1.0)
