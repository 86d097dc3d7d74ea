-- The end of a walk over entries with their fills: no entry is left, or no fill.
use Rattle.std.proofs.Common.{◌≡◌, ℕ, ◌⊎◌, ⊎_elim, List, [], ◌∷◌, ℤ, pos, Ok, Result, refl}
use Rattle.market.specs.declared.refusal.Refusal.{Refusal}
use Rattle.verdict.specs.Walks.{first_filled}
use Rattle.verdict.specs.Sums.{sum_filled}

pub filled_spent : {X : Type 0} (check : X → ℕ → ℕ → Result Unit Refusal) (xs : List X) (fs : List ℕ) (k : ℕ) → (xs ≡ []) ⊎ (fs ≡ []) → first_filled check xs fs k ≡ Ok tt
filled_spent check [] fs k e = refl
filled_spent check (x ∷ xs) [] k e = refl
filled_spent check (x ∷ xs) (f ∷ fs) k e = ⊎_elim (λ p. cc) (λ p. cc) e

pub sum_spent : {X : Type 0} (amount : X → ℕ → ℤ) (xs : List X) (fs : List ℕ) → (xs ≡ []) ⊎ (fs ≡ []) → sum_filled amount xs fs ≡ pos 0
sum_spent amount [] fs e = refl
sum_spent amount (x ∷ xs) [] e = refl
sum_spent amount (x ∷ xs) (f ∷ fs) e = ⊎_elim (λ p. cc) (λ p. cc) e
