-- Sums over entries with their fills.
use Rattle.std.specs.Prelude.{ℕ, List, [], ◌∷◌, ℤ, pos, ◌+ℤ◌}

-- what the entries with their fills add up to
abbrev pub sum_filled : {X : Type 0} → (X → ℕ → ℤ) → List X → List ℕ → ℤ
sum_filled amount [] fs = pos 0
sum_filled amount (x ∷ xs) [] = pos 0
sum_filled amount (x ∷ xs) (f ∷ fs) = amount x f +ℤ sum_filled amount xs fs
