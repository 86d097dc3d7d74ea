-- The first refusal of a walk stands at the lowest entry that is refused.
use Rattle.std.proofs.Common.{◌≡◌, ℕ, zero, suc, ◌+◌, ◌<◌, List, [], ◌∷◌, length, get_or, Ok, Err, Result, refl, ap, ◌∙◌, arith}
use Rattle.market.specs.declared.refusal.Refusal.{Refusal}
use Rattle.std.specs.Result.{result_and}
use Rattle.verdict.specs.Walks.{first_in, first_filled}
use Rattle.std.proofs.lemmas.Bool.{true≢false}
use Rattle.verdict.proofs.Firsts.{in_filled}

pub never : {X : Type 0} (x : X) (e : Refusal) → ◌≡◌ {A = Result X Refusal} (Ok x) (Err e) → ⊥
never x e p = true≢false cc

module _ {X : Type 0} (check : X → ℕ → ℕ → Result Unit Refusal) (d : X) where
  -- the check refuses the entry at a place, and accepts every earlier one
  pub record Lowest (xs : List X) (fs : List ℕ) (k : ℕ) (e : Refusal) : Type 0 where
    pub place : ℕ
    pub there : place < length xs
    pub refused : check (get_or xs place d) (get_or fs place 0) (k + place) ≡ Err e
    pub before : (j : ℕ) → j < place → check (get_or xs j d) (get_or fs j 0) (k + j) ≡ Ok tt

  earlier : (x : X) (xs : List X) (f : ℕ) (fs : List ℕ) (k i : ℕ) → check x f k ≡ Ok tt → ((j : ℕ) → j < i → check (get_or xs j d) (get_or fs j 0) ((k + 1) + j) ≡ Ok tt) → (j : ℕ) → j < suc i → check (get_or (x ∷ xs) j d) (get_or (f ∷ fs) j 0) (k + j) ≡ Ok tt
  earlier x xs f fs k i q h zero l = ap (check x f) (omega arith) ∙ q
  earlier x xs f fs k i q h (suc j) l = ap (check (get_or xs j d) (get_or fs j 0)) (omega arith) ∙ h j (omega arith)

  step : (x : X) (xs : List X) (f : ℕ) (fs : List ℕ) (k : ℕ) (e : Refusal) (r : Result Unit Refusal) → check x f k ≡ r → result_and r (first_filled check xs fs (k + 1)) ≡ Err e
      → (first_filled check xs fs (k + 1) ≡ Err e → Lowest xs fs (k + 1) e) → Lowest (x ∷ xs) (f ∷ fs) k e
  step x xs f fs k e (Ok u) q p ih =
      let t = ih p in
      let i : ℕ = t.place in
      let h = t.there in
      record { place = suc i; there = omega arith; refused = ap (check (get_or xs i d) (get_or fs i 0)) (omega arith) ∙ t.refused; before = earlier x xs f fs k i q t.before }
  step x xs f fs k e (Err g) q p ih =
      record { place = 0; there = omega arith; refused = ap (check x f) (omega arith) ∙ q ∙ p; before = λ j l. absurd (omega arith) }

  pub lowest : (xs : List X) (fs : List ℕ) (k : ℕ) (e : Refusal) → first_filled check xs fs k ≡ Err e → Lowest xs fs k e
  lowest [] fs k e p = absurd (never tt e p)
  lowest (x ∷ xs) [] k e p = absurd (never tt e p)
  lowest (x ∷ xs) (f ∷ fs) k e p = step x xs f fs k e (check x f k) refl p (lowest xs fs (k + 1) e)

pub lowest_in : {X : Type 0} (check : X → ℕ → Result Unit Refusal) (d : X) (xs : List X) (fs : List ℕ) (k : ℕ) (e : Refusal) → length xs ≡ length fs → first_in check xs k ≡ Err e → Lowest (λ x f n. check x n) d xs fs k e
lowest_in check d xs fs k e s p = lowest (λ x f n. check x n) d xs fs k e (in_filled check xs fs k s ∙ p)
