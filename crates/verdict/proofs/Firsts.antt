-- The first refusal: of one check after the other, and of a phase that accepts.
use Rattle.std.proofs.Common.{◌≡◌, ℕ, ◌+◌, List, [], ◌∷◌, length, Ok, Err, Result, refl, ap, ◌∙◌, arith}
use Rattle.market.specs.declared.refusal.Refusal.{Refusal}
use Rattle.std.specs.Result.{result_and}
use Rattle.verdict.specs.Walks.{first_in, first_filled}
use Rattle.std.specs.List.{AllZip}

-- ---- one check after the other

pub then_ok : {X : Type 0} (r : Result Unit Refusal) (s : Result X Refusal) (x : X) → result_and r s ≡ Ok x → (r ≡ Ok tt) × (s ≡ Ok x)
then_ok (Ok u) s x e = (refl, e)
then_ok (Err f) s x e = (cc, cc)

pub then_both : {X : Type 0} (r : Result Unit Refusal) (s t : Result X Refusal) → r ≡ Ok tt → s ≡ t → result_and r s ≡ t
then_both {X} r s t e h = ap (λ (u : Result Unit Refusal). result_and u s) e ∙ h

-- the answer of the second check, once the first accepts
pub then_next : {X : Type 0} (a : Result Unit Refusal) (r b : Result X Refusal) (u : Unit) → Ok u ≡ a → r ≡ b → r ≡ result_and a b
then_next a r b u e h = h ∙ ap (λ (z : Result Unit Refusal). result_and z b) e

-- ---- a phase without fills is one with fills that it does not look at

pub in_filled : {X : Type 0} (check : X → ℕ → Result Unit Refusal) (xs : List X) (fs : List ℕ) (k : ℕ) → length xs ≡ length fs → first_filled (λ x f n. check x n) xs fs k ≡ first_in check xs k
in_filled check [] fs k s = refl
in_filled check (x ∷ xs) [] k s = absurd (omega arith)
in_filled check (x ∷ xs) (f ∷ fs) k s = ap (λ (r : Result Unit Refusal). result_and (check x k) r) (in_filled check xs fs (k + 1) (omega arith))

-- ---- a phase accepts exactly where each entry keeps its rule

module _ {X : Type 0} (check : X → ℕ → ℕ → Result Unit Refusal) (Keeps : X → ℕ → Type 0) where
  pub each_out : ((x : X) (f j : ℕ) → check x f j ≡ Ok tt → Keeps x f) → (xs : List X) (fs : List ℕ) (k : ℕ) → length xs ≡ length fs → first_filled check xs fs k ≡ Ok tt → AllZip Keeps xs fs
  each_out one [] [] k s e = tt
  each_out one [] (f ∷ fs) k s e = absurd (omega arith)
  each_out one (x ∷ xs) [] k s e = absurd (omega arith)
  each_out one (x ∷ xs) (f ∷ fs) k s e =
      let p = then_ok (check x f k) (first_filled check xs fs (k + 1)) tt e in
      (one x f k p.0, each_out one xs fs (k + 1) (omega arith) p.1)

  pub each_back : ((x : X) (f j : ℕ) → Keeps x f → check x f j ≡ Ok tt) → (xs : List X) (fs : List ℕ) (k : ℕ) → AllZip Keeps xs fs → first_filled check xs fs k ≡ Ok tt
  each_back one [] fs k e = refl
  each_back one (x ∷ xs) [] k e = refl
  each_back one (x ∷ xs) (f ∷ fs) k e = then_both (check x f k) _ _ (one x f k e.0) (each_back one xs fs (k + 1) e.1)
