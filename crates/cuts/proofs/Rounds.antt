-- Candidates that lose a step each in turn, round after round: what each has lost after k cuts, and when it must end.
use Rattle.std.proofs.Common.{◌≡◌, ℕ, zero, suc, ◌+◌, ◌-◌, ◌*◌, ◌/◌, ◌%◌, ◌<◌, ◌≤◌, min, true, false, cond, eqb, ltb, leb, ◌≢◌, ◌⊎◌, List, [], ◌∷◌, length, get_or, set, sym, refl, ap, ◌∙◌, ⊎_elim, mul-le-mul_right, mod-eq_of_lt, mul_comm, add-mul, arith}
use native.Mathlib.Nat.{div-eq_of_lt}
use Rattle.std.proofs.lemmas.Nat.{div-add-mod', div-mul-add, mod-mul-add, mod_below}
use Rattle.std.proofs.lemmas.List.{length-set, get_or-set_same, get_or-set_other}
use Rattle.std.proofs.lemmas.Bool.{cases_eq, cases_lt, le-leb, lt-leb, cond-true, cond-false}
use Rattle.std.proofs.lemmas.Bool.Decides.{nat_tests, eqb_tells}
use Rattle.cuts.proofs.Place.{by_order}
use Rattle.cuts.specs.Stages.{next_turn, smallest, ahead, open_cuts}

-- what the candidate of rank r among n has lost after k cuts
abbrev pub lost : ℕ → ℕ → ℕ → ℕ
lost n k r = k / n + cond (ltb r (k % n)) 1 0

min_ways : (a b : ℕ) → (min a b ≡ a) ⊎ (min a b ≡ b)
min_ways a b = grind arith

-- one turn more
module _ (k n : ℕ) (some : 0 < n) where
  next_in : k % n + 1 < n → ((suc k) / n ≡ k / n) × ((suc k) % n ≡ k % n + 1)
  next_in h =
      let e : suc k ≡ k / n * n + (k % n + 1) = omega (arith, div-add-mod' k n) in
      (ap (λ x. x / n) e ∙ div-mul-add (k / n) n (k % n + 1) h, ap (λ x. x % n) e ∙ mod-mul-add (k / n) n (k % n + 1) h)

  next_over : k % n + 1 ≡ n → ((suc k) / n ≡ k / n + 1) × ((suc k) % n ≡ 0)
  next_over h =
      let e : suc k ≡ (k / n + 1) * n + 0 = omega (arith, div-add-mod' k n, add-mul (k / n) 1 n) in
      (ap (λ x. x / n) e ∙ div-mul-add (k / n + 1) n 0 some, ap (λ x. x % n) e ∙ mod-mul-add (k / n + 1) n 0 some)

  next : ((k % n + 1 < n) × ((suc k) / n ≡ k / n) × ((suc k) % n ≡ k % n + 1)) ⊎ ((k % n + 1 ≡ n) × ((suc k) / n ≡ k / n + 1) × ((suc k) % n ≡ 0))
  next = let b = mod_below k n some in let i = next_in in let o = next_over in grind arith

  lost_turn : lost n (suc k) (k % n) ≡ lost n k (k % n) + 1
  lost_turn = let s = next in let b = mod_below k n some in grind (arith, nat_tests)

  lost_other : (r : ℕ) → r < n → r ≢ k % n → lost n (suc k) r ≡ lost n k r
  lost_other r h ne = let s = next in let b = mod_below k n some in grind (arith, nat_tests)

  lost_now : lost n k (k % n) ≡ k / n
  lost_now = grind (arith, nat_tests)

  turn_next : next_turn n (k % n) ≡ (suc k) % n
  turn_next = let s = next in grind (arith, nat_tests)

none_lost : (n r : ℕ) → 0 < n → lost n 0 r ≡ 0
none_lost n r some =
    let d : 0 / n ≡ 0 = div-eq_of_lt some in
    let m : 0 % n ≡ 0 = mod-eq_of_lt some in
    grind (arith, nat_tests)

-- ---- the smallest quantity, and who holds it first

smallest-held : (x : ℕ) (xs : List ℕ) → (k : ℕ) × (k < length (x ∷ xs)) × (get_or (x ∷ xs) k 0 ≡ smallest (x ∷ xs))
smallest-held x [] = (0, omega arith, refl)
smallest-held x (y ∷ ys) =
    let i = smallest-held y ys in
    ⊎_elim (λ e. (0, omega arith, sym e)) (λ e. (suc i.0, omega arith, i.2 ∙ sym e)) (min_ways x (smallest (y ∷ ys)))

smallest_le : (qs : List ℕ) (r : ℕ) → r < length qs → smallest qs ≤ get_or qs r 0
smallest_le [] r l = omega arith
smallest_le (x ∷ []) zero l = omega arith
smallest_le (x ∷ []) (suc r) l = absurd (omega arith)
smallest_le (x ∷ y ∷ ys) zero l = omega arith
smallest_le (x ∷ y ∷ ys) (suc r) l = omega (arith, smallest_le (y ∷ ys) r (omega arith))

not_ahead : (m : ℕ) (qs : List ℕ) (r : ℕ) → r < ahead m qs → r < length qs → get_or qs r 0 ≢ m
not_ahead m [] r h l = absurd (omega arith)
not_ahead m (x ∷ xs) zero h l = λ e. let t = eqb_tells x m in let z : ◌≡◌ {A = ℕ} 0 1 = grind arith in absurd (omega arith)
not_ahead m (x ∷ xs) (suc r) h l = not_ahead m xs r (let t = eqb_tells x m in grind arith) (omega arith)

ahead_found : (m : ℕ) (qs : List ℕ) (k : ℕ) → k < length qs → get_or qs k 0 ≡ m → (ahead m qs ≤ k) × (get_or qs (ahead m qs) 0 ≡ m)
ahead_found m [] k l e = absurd (omega arith)
ahead_found m (x ∷ xs) zero l e = let t : eqb x m ≡ true = grind (arith, nat_tests) in rw t (omega arith, e)
ahead_found m (x ∷ xs) (suc k) l e =
    let i = ahead_found m xs k (omega arith) e in
    ⊎_elim (λ t. let b = t.0 in rw b (omega arith, t.1)) (λ t. let b = t.0 in rw b (omega arith, i.1)) (eqb_tells x m)

held_at : (qs : List ℕ) → 0 < length qs → (k : ℕ) × (k < length qs) × (get_or qs k 0 ≡ smallest qs)
held_at [] h = absurd (omega arith)
held_at (x ∷ xs) h = smallest-held x xs

first_holds : (qs : List ℕ) → 0 < length qs → (ahead (smallest qs) qs < length qs) × (get_or qs (ahead (smallest qs) qs) 0 ≡ smallest qs)
first_holds qs some =
    let k = held_at qs some in
    let f = ahead_found (smallest qs) qs k.0 k.1 k.2 in
    (omega arith, f.1)

-- ---- how many cuts are open

module _ (qs : List ℕ) (some : 0 < length qs) (held : (r : ℕ) → r < length qs → 0 < get_or qs r 0) where
  -- before the open cuts are made, whoever's turn it is holds more than one step
  open_more : (k : ℕ) → k < open_cuts qs → 1 < get_or qs (k % length qs) 0 - k / length qs
  open_more k h =
      let n = length qs in
      let m = smallest qs in
      let j = ahead m qs in
      let f = first_holds qs some in
      let b : k % n < n = mod_below k n some in
      let w = div-add-mod' k n in
      let le : m ≤ get_or qs (k % n) 0 = smallest_le qs (k % n) b in
      let pos : 0 < m = omega (arith, held j f.0) in
      let c = mul_comm n (m - 1) in
      by_order (k / n) (m - 1)
      (λ lt. omega arith)
      (λ e.
      let s : k / n * n ≡ (m - 1) * n = ap (λ q. q * n) e in
      let ne : get_or qs (k % n) 0 ≢ m = not_ahead m qs (k % n) (omega arith) b in
      omega arith)
      (λ gt.
      let s : (m - 1 + 1) * n ≤ k / n * n = mul-le-mul_right n (omega arith) in
      absurd (omega (arith, add-mul (m - 1) 1 n)))

  -- and then it holds exactly one
  open_stops : get_or qs (open_cuts qs % length qs) 0 - open_cuts qs / length qs ≡ 1
  open_stops =
      let n = length qs in
      let m = smallest qs in
      let j = ahead m qs in
      let f = first_holds qs some in
      let e : open_cuts qs ≡ (m - 1) * n + j = omega (arith, mul_comm n (m - 1)) in
      let d : open_cuts qs / n ≡ m - 1 = ap (λ y. y / n) e ∙ div-mul-add (m - 1) n j f.0 in
      let p : open_cuts qs % n ≡ j = ap (λ y. y % n) e ∙ mod-mul-add (m - 1) n j f.0 in
      let v : get_or qs (open_cuts qs % n) 0 ≡ m = ap (λ y. get_or qs y 0) p ∙ f.1 in
      omega (arith, held j f.0, f.1)

-- the gap that is left, by what the candidates hold
abbrev pub gap_left : List ℕ → ℕ → ℕ → ℕ
gap_left qs t zero = 0
gap_left qs t (suc g) = cond (leb (get_or qs t 0) 1) (suc g) (gap_left (set qs t (get_or qs t 0 - 1)) (next_turn (length qs) t) g)

-- xs is what is held after k cuts
abbrev After : List ℕ → ℕ → List ℕ → Type 0
After qs k xs = (length xs ≡ length qs) × ((r : ℕ) → r < length qs → get_or xs r 0 ≡ get_or qs r 0 - lost (length qs) k r)

module _ (qs : List ℕ) (some : 0 < length qs) (held : (r : ℕ) → r < length qs → 0 < get_or qs r 0) where
  holds_now : (k : ℕ) (xs : List ℕ) → After qs k xs → get_or xs (k % length qs) 0 ≡ get_or qs (k % length qs) 0 - k / length qs
  holds_now k xs a = a.1 (k % length qs) (mod_below k (length qs) some) ∙ ap (λ y. get_or qs (k % length qs) 0 - y) (lost_now k (length qs) some)

  after_more : (k : ℕ) (xs : List ℕ) → After qs k xs → After qs (suc k) (set xs (k % length qs) (get_or xs (k % length qs) 0 - 1))
  after_more k xs a =
      let n = length qs in
      let p = k % n in
      let b : p < n = mod_below k n some in (
        length-set xs p (get_or xs p 0 - 1) ∙ a.0,
        λ r l. ⊎_elim
            (λ e. rw e (get_or-set_same xs p (get_or xs p 0 - 1) 0 (omega arith) ∙ omega (arith, a.1 p b, lost_turn k n some)))
            (λ ne. get_or-set_other xs p r (get_or xs p 0 - 1) 0 ne ∙ a.1 r l ∙ ap (λ x. get_or qs r 0 - x) (sym (lost_other k n some r l ne)))
            (cases_eq r p),
      )

  left_from : (g k : ℕ) (xs : List ℕ) → After qs k xs → k ≤ open_cuts qs → gap_left xs (k % length qs) g ≡ g - (open_cuts qs - k)
  left_from zero k xs a h = omega arith
  left_from (suc g) k xs a h =
      let p = k % length qs in
      let v = holds_now k xs a in
      let xs' = set xs p (get_or xs p 0 - 1) in
      ⊎_elim
      (λ lt.
      let o : leb (get_or xs p 0) 1 ≡ false = lt-leb (get_or xs p 0) 1 (omega (arith, open_more qs some held k lt)) in
      let i = left_from g (suc k) xs' (after_more k xs a) (omega arith) in
      let t : next_turn (length xs) p ≡ (suc k) % length qs = ap (λ n. next_turn n p) a.0 ∙ turn_next k (length qs) some in
      cond-false (leb (get_or xs p 0) 1) (suc g) (gap_left xs' (next_turn (length xs) p) g) o ∙ ap (λ u. gap_left xs' u g) t ∙ i ∙ omega arith)
      (λ ge.
      let e : k ≡ open_cuts qs = omega arith in
      let one : get_or qs p 0 - k / length qs ≡ 1 = ap (λ x. get_or qs (x % length qs) 0 - x / length qs) e ∙ open_stops qs some held in
      let o : leb (get_or xs p 0) 1 ≡ true = le-leb (get_or xs p 0) 1 (omega arith) in
      cond-true (leb (get_or xs p 0) 1) (suc g) (gap_left xs' (next_turn (length xs) p) g) o ∙ omega arith)
      (cases_lt k (open_cuts qs))

  left_some : (g : ℕ) → gap_left qs 0 g ≡ g - open_cuts qs
  left_some g =
      let z : 0 % length qs ≡ 0 = mod-eq_of_lt some in
      let a : After qs 0 qs = (refl, λ r l. omega (arith, none_lost (length qs) r some)) in
      ap (λ t. gap_left qs t g) (sym z) ∙ left_from g 0 qs a (omega arith) ∙ omega arith

left_none : (g : ℕ) → gap_left [] 0 g ≡ g - open_cuts []
left_none zero = omega arith
left_none (suc g) = omega arith

-- A stage leaves of the gap what its open cuts do not reach.
pub left_is : (qs : List ℕ) (g : ℕ) → ((r : ℕ) → r < length qs → 0 < get_or qs r 0) → gap_left qs 0 g ≡ g - open_cuts qs
left_is [] g held = left_none g
left_is (x ∷ xs) g held = left_some (x ∷ xs) (omega arith) held g
