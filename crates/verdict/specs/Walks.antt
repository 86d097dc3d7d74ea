-- The foremost refusal of a list of records.
use Rattle.std.specs.Prelude.{ℕ, ◌+◌, List, [], ◌∷◌, Ok, Result}
use Rattle.market.specs.declared.refusal.Refusal.{Refusal}
use Rattle.std.specs.Result.{result_and}

-- the first refusal among the records, numbered from k
abbrev pub first_in : {X : Type 0} → (X → ℕ → Result Unit Refusal) → List X → ℕ → Result Unit Refusal
first_in check [] k = Ok tt
first_in check (x ∷ xs) k = result_and (check x k) (first_in check xs (k + 1))

-- the first refusal among the records with their fills, numbered from k
abbrev pub first_filled : {X : Type 0} → (X → ℕ → ℕ → Result Unit Refusal) → List X → List ℕ → ℕ → Result Unit Refusal
first_filled check [] fs k = Ok tt
first_filled check (x ∷ xs) [] k = Ok tt
first_filled check (x ∷ xs) (f ∷ fs) k = result_and (check x f k) (first_filled check xs fs (k + 1))
