-- The checks of voiding, and what they come to.
use Rattle.std.proofs.Common.{◌≡◌, ℕ, suc, ◌+◌, ◌-◌, ◌<◌, ◌≤◌, true, List, [], ◌∷◌, length, pos, Ok, Result, ap, arith}
use Rattle.std.specs.Result.{result_and}
use Rattle.std.proofs.lemmas.Bool.Decides.{nat_tests}
use Rattle.market.specs.Bounds.{in_day}
use Rattle.market.specs.declared.refusal.Refusal.{Refusal}
use Rattle.market.specs.declared.refusal.Refusal.TheVariants.{NoInterval, Short}
use Rattle.market.specs.First.{tests}
use Rattle.market.proofs.Facts.{tests_out}
use Rattle.verdict.proofs.Firsts.{then_ok}
use Rattle.entries.specs.Settles.{sheet_ok}
use Rattle.entries.specs.Voids.{Reversal, first_from, void_checks, Voidable}
use Rattle.entries.proofs.Readiness.{laid_from}

-- the first refusal at what is left is that at its first place, or else at the rest
pub from_next : (check : ℕ → Result Unit Refusal) (k m : ℕ) → k < m → first_from check k (m - k) ≡ result_and (check k) (first_from check (k + 1) (m - (k + 1)))
from_next check k m h = let e : m - k ≡ suc (m - (k + 1)) = omega arith in ap (first_from check k) e

-- what the test of the sheet says of the number of entries
few_from : (o b n size : ℕ) → sheet_ok o b n size ≡ true → o + b ≤ 1088
few_from o b n size e = grind (arith, nat_tests)

-- what the checks come to, where they pass
pub voidable_from : (x : Reversal) (s : List ℕ) → void_checks x s ≡ Ok tt → Voidable x (length s)
unfolding void_checks
voidable_from x s e =
    let o = length x.orders in
    let b = length x.blocks in
    let n = x.intervals in
    let table = (in_day n (pos x.interval), NoInterval) ∷ (sheet_ok o b n (length s), Short) ∷ [] in
    let p = tests_out table (then_ok (tests table) _ tt e).0 in
    record { few = few_from o b n (length s) p.1.0; laid = laid_from o b n x.interval (length s) p.0 p.1.0 }
