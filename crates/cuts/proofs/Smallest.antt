-- The smallest quantity and who holds it first, as the iterators find them.
use Rattle.std.proofs.Common.{◌≡◌, ℕ, min, not, eqb, List, [], ◌∷◌, length, take, fold, unwrap_or, refl, ◌∙◌, arith}
use Rattle.std.specs.List.{prefix_len, reduce}
use Rattle.std.proofs.lemmas.List.Folds.{length-prefix_len}
use Rattle.cuts.specs.Stages.{smallest, ahead}
use Rattle.cuts.proofs.Place.{by_bool}

prefix_is : (m : ℕ) (qs : List ℕ) → prefix_len (λ q. not (eqb q m)) qs ≡ ahead m qs
prefix_is m [] = refl
prefix_is m (q ∷ qs) = let i = prefix_is m qs in by_bool (eqb q m) (λ e. rw e refl) (λ e. rw e (omega (arith, i)))

-- how many hold another quantity, before the first that holds m
pub ahead_is : (m : ℕ) (qs : List ℕ) → length (take (prefix_len (λ q. not (eqb q m)) qs) qs) ≡ ahead m qs
ahead_is m qs = length-prefix_len (λ q. not (eqb q m)) qs ∙ prefix_is m qs

min_with : (x y : ℕ) (qs : List ℕ) → smallest (min x y ∷ qs) ≡ min x (smallest (y ∷ qs))
min_with x y [] = refl
min_with x y (q ∷ qs) = omega arith

fold_is : (x : ℕ) (qs : List ℕ) → fold min x qs ≡ smallest (x ∷ qs)
fold_is x [] = refl
fold_is x (y ∷ qs) = fold_is (min x y) qs ∙ min_with x y qs

-- the least of the quantities, 0 where there is none
pub smallest_is : (qs : List ℕ) → unwrap_or (reduce min qs) 0 ≡ smallest qs
smallest_is [] = refl
smallest_is (q ∷ qs) = fold_is q qs
