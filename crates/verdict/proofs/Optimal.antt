-- Of all fillings of the orders that are in balance alike, those that obey the rule of the price have the most welfare.
use Rattle.std.proofs.Common.{◌≡◌, ℕ, zero, suc, ◌*◌, ◌<◌, ◌≤◌, Bool, true, false, cond, List, [], ◌∷◌, ℤ, pos, negsuc, ◌+ℤ◌, ◌-ℤ◌, ◌*ℤ◌, nat_abs, ◌≤ℤ◌, ◌<ℤ◌, sym, refl, ap, ◌∙◌, mul-le-mul_left, arith}
use borrow.Author.Differences.{ints, abs_is}
use native.Mathlib.Decide.{ℕ_discrete}
use Rattle.market.specs.declared.records.Side.{Side}
use Rattle.market.specs.declared.records.Side.TheVariants.{Sell, Buy}
use Rattle.market.specs.declared.records.Order.{Order}
use Rattle.market.specs.Bounds.{same}
use Rattle.market.specs.Kinds.{orders}
use Rattle.market.specs.Signed.{signed}
use Rattle.verdict.specs.Balance.{worth, sale_in, order_worth}
use Rattle.verdict.specs.Sums.{sum_filled}
use Rattle.market.proofs.Facts.{same_yes, same_no}
use Rattle.verdict.proofs.Ring.{add-mul, mul-add, neg-mul, mul-neg}

-- the quantity in thousandths and the number of the interval, of an order within its bounds
abbrev pub most : Order → ℕ
most o = 100 * nat_abs o.quantity

abbrev pub at : Order → ℕ
at o = nat_abs o.interval

abbrev welfare : List Order → List ℕ → ℤ
welfare os fs = sum_filled order_worth os fs

abbrev net : ℕ → List Order → List ℕ → ℤ
net t os fs = sum_filled (sale_in orders t) os fs

abbrev pub Rules : Side → ℤ → ℕ → ℤ → ℕ → Type 0
Rules Sell l q p f = (p <ℤ l → f ≡ 0) × (l <ℤ p → f ≡ q)
Rules Buy l q p f = (l <ℤ p → f ≡ 0) × (p <ℤ l → f ≡ q)

pub data Within : List Order → List ℕ → Type 0 where
  none : Within [] []
  more : {o : Order} {f : ℕ} {os : List Order} {fs : List ℕ} → f ≤ most o → Within os fs → Within (o ∷ os) (f ∷ fs)

abbrev pub Meets : (ℕ → ℤ) → List Order → List ℕ → Type 0
Meets p [] fs = Unit {0}
Meets p (o ∷ os) [] = Unit {0}
Meets p (o ∷ os) (f ∷ fs) = Rules o.side o.limit (most o) (p (at o)) f × Meets p os fs

abbrev pub InDay : ℕ → List Order → Type 0
InDay n [] = Unit {0}
InDay n (o ∷ os) = ((pos 1 ≤ℤ o.interval) × (o.interval ≤ℤ pos n)) × InDay n os

-- what a unit of fill gains at the price
abbrev edge : Side → ℤ → ℤ → ℤ
edge Sell l p = p -ℤ l
edge Buy l p = l -ℤ p

worth_is : (s : Side) (l p : ℤ) (f : ℕ) → worth s l f ≡ edge s l p *ℤ pos f -ℤ p *ℤ signed s f
worth_is Sell l p f = simp (add-mul, neg-mul) (omega (arith, ints))
worth_is Buy l p f = simp (add-mul, neg-mul, mul-neg) (omega (arith, ints))

-- the rule, by the sign of the edge
abbrev Rule : ℤ → ℕ → ℕ → Type 0
Rule e q f = (e <ℤ pos 0 → f ≡ 0) × (pos 0 <ℤ e → f ≡ q)

rule_out : (s : Side) (l p : ℤ) (q f : ℕ) → Rules s l q p f → Rule (edge s l p) q f
rule_out Sell l p q f r = (λ h. r.0 (omega (arith, ints)), λ h. r.1 (omega (arith, ints)))
rule_out Buy l p q f r = (λ h. r.0 (omega (arith, ints)), λ h. r.1 (omega (arith, ints)))

rule_in : (s : Side) (l p : ℤ) (q f : ℕ) → Rule (edge s l p) q f → Rules s l q p f
rule_in Sell l p q f r = (λ h. r.0 (omega (arith, ints)), λ h. r.1 (omega (arith, ints)))
rule_in Buy l p q f r = (λ h. r.0 (omega (arith, ints)), λ h. r.1 (omega (arith, ints)))

-- a fill that obeys the rule gains at least as much as any other, and as much only as one that obeys it
up_pos : (n : ℕ) → pos 0 <ℤ pos (suc n)
up_pos n = omega (arith, ints)

down_neg : (n : ℕ) → negsuc n <ℤ pos 0
down_neg n = omega (arith, ints)

gain_most : (e : ℤ) (q f g : ℕ) → Rule e q f → g ≤ q → (e *ℤ pos g) ≤ℤ (e *ℤ pos f)
gain_most (pos zero) q f g r h = omega (arith, ints)
gain_most (pos (suc n)) q f g r h = rw (r.1 (up_pos n)) (omega (arith, ints, mul-le-mul_left (suc n) h))
gain_most (negsuc n) q f g r h = rw (r.0 (down_neg n)) (omega (arith, ints))

gain_same : (e : ℤ) (q f g : ℕ) → Rule e q f → Rule e q g → e *ℤ pos g ≡ e *ℤ pos f
gain_same (pos zero) q f g r h = omega (arith, ints)
gain_same (pos (suc n)) q f g r h = ap (λ (k : ℕ). pos (suc n) *ℤ pos k) (h.1 (up_pos n) ∙ sym (r.1 (up_pos n)))
gain_same (negsuc n) q f g r h = ap (λ (k : ℕ). negsuc n *ℤ pos k) (h.0 (down_neg n) ∙ sym (r.0 (down_neg n)))

gain_tie : (e : ℤ) (q f g : ℕ) → Rule e q f → g ≤ q → e *ℤ pos g ≡ e *ℤ pos f → Rule e q g
gain_tie (pos zero) q f g r h t = (λ k. absurd (omega (arith, ints)), λ k. absurd (omega (arith, ints)))
gain_tie (pos (suc n)) q f g r h t =
    (λ k. absurd (omega (arith, ints)), λ k. let t' : pos (suc n) *ℤ pos g ≡ pos (suc n) *ℤ pos q = rw (r.1 k) at t in omega (arith, ints, mul-le-mul_left n h))
gain_tie (negsuc n) q f g r h t =
    (λ k. let t' : negsuc n *ℤ pos g ≡ negsuc n *ℤ pos 0 = rw (r.0 k) at t in omega (arith, ints), λ k. absurd (omega (arith, ints)))

-- ---- over the orders
abbrev gains : (ℕ → ℤ) → List Order → List ℕ → ℤ
gains p [] fs = pos 0
gains p (o ∷ os) [] = pos 0
gains p (o ∷ os) (f ∷ fs) = edge o.side o.limit (p (at o)) *ℤ pos f +ℤ gains p os fs

abbrev paid : (ℕ → ℤ) → List Order → List ℕ → ℤ
paid p [] fs = pos 0
paid p (o ∷ os) [] = pos 0
paid p (o ∷ os) (f ∷ fs) = p (at o) *ℤ signed o.side f +ℤ paid p os fs

welfare_is : (p : ℕ → ℤ) (os : List Order) (fs : List ℕ) → welfare os fs ≡ gains p os fs -ℤ paid p os fs
welfare_is p [] fs = refl
welfare_is p (o ∷ os) [] = refl
welfare_is p (o ∷ os) (f ∷ fs) = omega (arith, ints, worth_is o.side o.limit (p (at o)) f, welfare_is p os fs)

gains_most : (p : ℕ → ℤ) {os : List Order} {fs gs : List ℕ} → Within os fs → Within os gs → Meets p os fs → gains p os gs ≤ℤ gains p os fs
gains_most p none none m = omega (arith, ints)
gains_most p (more {o} {f} a w) (more {f = g} b v) m =
    omega (arith, ints, gain_most (edge o.side o.limit (p (at o))) (most o) f g (rule_out o.side o.limit (p (at o)) (most o) f m.0) b, gains_most p w v m.1)

gains_same : (p : ℕ → ℤ) {os : List Order} {fs gs : List ℕ} → Within os fs → Within os gs → Meets p os fs → Meets p os gs → gains p os gs ≡ gains p os fs
gains_same p none none m n = refl
gains_same p (more {o} {f} a w) (more {f = g} b v) m n =
    omega (arith, ints, gain_same (edge o.side o.limit (p (at o))) (most o) f g (rule_out o.side o.limit (p (at o)) (most o) f m.0) (rule_out o.side o.limit (p (at o)) (most o) g n.0), gains_same p w v m.1 n.1)

gains_tie : (p : ℕ → ℤ) {os : List Order} {fs gs : List ℕ} → Within os fs → Within os gs → Meets p os fs → gains p os gs ≡ gains p os fs → Meets p os gs
gains_tie p none none m t = tt
gains_tie p (more {o} {f} {os} {fs} a w) (more {f = g} {fs = gs} b v) m t =
    let e : ℤ = edge o.side o.limit (p (at o)) in
    let r : Rule e (most o) f = rule_out o.side o.limit (p (at o)) (most o) f m.0 in
    let x : (e *ℤ pos g) ≤ℤ (e *ℤ pos f) = gain_most e (most o) f g r b in
    let y : gains p os gs ≤ℤ gains p os fs = gains_most p w v m.1 in
    let here : e *ℤ pos g ≡ e *ℤ pos f = omega (arith, ints) in
    let rest : gains p os gs ≡ gains p os fs = omega (arith, ints) in
    (rule_in o.side o.limit (p (at o)) (most o) g (gain_tie e (most o) f g r b here), gains_tie p w v m.1 rest)

-- ---- what the balance fixes: the payments at the prices, interval by interval
abbrev sum_to : ℕ → (ℕ → ℤ) → ℤ
sum_to zero h = pos 0
sum_to (suc n) h = sum_to n h +ℤ h (suc n)

sum_to_same : (n : ℕ) (h k : ℕ → ℤ) → ((t : ℕ) → 1 ≤ t → t ≤ n → h t ≡ k t) → sum_to n h ≡ sum_to n k
sum_to_same zero h k e = refl
sum_to_same (suc n) h k e = omega (arith, ints, e (suc n) (omega arith) (omega arith), sum_to_same n h k (λ t a b. e t a (omega arith)))

sum_to_zero : (n : ℕ) (p : ℕ → ℤ) → sum_to n (λ t. p t *ℤ pos 0) ≡ pos 0
sum_to_zero zero p = refl
sum_to_zero (suc n) p = omega (arith, ints, sum_to_zero n p)

module _ (p h : ℕ → ℤ) (i : ℕ) (s : ℤ) (on : ℕ → Bool) (hit : (t : ℕ) → i ≡ t → on t ≡ true) (miss : (t : ℕ) → (i ≡ t → ⊥) → on t ≡ false) where
  abbrev with_one : ℕ → ℤ
  with_one t = p t *ℤ (cond (on t) s (pos 0) +ℤ h t)

  abbrev without : ℕ → ℤ
  without t = p t *ℤ h t

  at_any : (t : ℕ) (v : Bool) → on t ≡ v → with_one t ≡ p t *ℤ (cond v s (pos 0) +ℤ h t)
  at_any t v e = ap (λ (b : Bool). p t *ℤ (cond b s (pos 0) +ℤ h t)) e

  at_one : (t : ℕ) → i ≡ t → with_one t ≡ p i *ℤ s +ℤ without t
  at_one t e = at_any t true (hit t e) ∙ mul-add (p t) s (h t) ∙ ap (λ (j : ℕ). p j *ℤ s +ℤ without t) (sym e)

  at_other : (t : ℕ) → (i ≡ t → ⊥) → with_one t ≡ without t
  at_other t e = at_any t false (miss t e) ∙ ap (λ (z : ℤ). p t *ℤ z) (omega (arith, ints))

  one_out : (n : ℕ) → n < i → sum_to n with_one ≡ sum_to n without
  one_out n l = sum_to_same n with_one without (λ t a b. at_other t (λ e. omega arith))

  one_step : (n : ℕ) → i ≤ suc n → (i ≤ n → sum_to n with_one ≡ p i *ℤ s +ℤ sum_to n without) → Dec (i ≡ suc n) → sum_to (suc n) with_one ≡ p i *ℤ s +ℤ sum_to (suc n) without
  one_step n b ih (yes e) = omega (arith, ints, at_one (suc n) e, one_out n (omega arith))
  one_step n b ih (no ne) = omega (arith, ints, at_other (suc n) ne, ih (omega arith))

  one_in : (n : ℕ) → 1 ≤ i → i ≤ n → sum_to n with_one ≡ p i *ℤ s +ℤ sum_to n without
  one_in zero a b = absurd (omega arith)
  one_in (suc n) a b = one_step n b (one_in n a) (ℕ_discrete i (suc n))

module _ (o : Order) (a : pos 1 ≤ℤ o.interval) where
  hits : (t : ℕ) → at o ≡ t → same o.interval (pos t) ≡ true
  hits t e = same_yes o.interval (pos t) (omega (arith, ints, abs_is o.interval))

  misses : (t : ℕ) → (at o ≡ t → ⊥) → same o.interval (pos t) ≡ false
  misses t n = same_no o.interval (pos t) (λ e. n (omega (arith, ints, abs_is o.interval)))

paid_is : (p : ℕ → ℤ) (n : ℕ) (os : List Order) (fs : List ℕ) → InDay n os → paid p os fs ≡ sum_to n (λ t. p t *ℤ net t os fs)
paid_is p n [] fs d = sym (sum_to_zero n p)
paid_is p n (o ∷ os) [] d = sym (sum_to_zero n p)
paid_is p n (o ∷ os) (f ∷ fs) d =
    let a = d.0.0 in
    let b = d.0.1 in
    ap (λ (z : ℤ). p (at o) *ℤ signed o.side f +ℤ z) (paid_is p n os fs d.1)
    ∙ sym (one_in p (λ t. net t os fs) (at o) (signed o.side f) (λ t. same o.interval (pos t)) (hits o a) (misses o a) n (omega (arith, ints, abs_is o.interval)) (omega (arith, ints, abs_is o.interval)))

paid_same : (p : ℕ → ℤ) (n : ℕ) (os : List Order) (fs gs : List ℕ) → InDay n os → ((t : ℕ) → 1 ≤ t → t ≤ n → net t os fs ≡ net t os gs) → paid p os fs ≡ paid p os gs
paid_same p n os fs gs d e =
    paid_is p n os fs d ∙ sum_to_same n (λ t. p t *ℤ net t os fs) (λ t. p t *ℤ net t os gs) (λ t a b. ap (λ (z : ℤ). p t *ℤ z) (e t a b)) ∙ sym (paid_is p n os gs d)

-- ---- the theorem
module _ (p : ℕ → ℤ) (n : ℕ) (os : List Order) (fs gs : List ℕ) (d : InDay n os) (w : Within os fs) (m : Meets p os fs) (v : Within os gs)
    (e : (t : ℕ) → 1 ≤ t → t ≤ n → net t os gs ≡ net t os fs) where
  pub welfare_most : welfare os gs ≤ℤ welfare os fs
  welfare_most = omega (arith, ints, welfare_is p os fs, welfare_is p os gs, paid_same p n os gs fs d e, gains_most p w v m)

  pub welfare_same : Meets p os gs → welfare os gs ≡ welfare os fs
  welfare_same k = omega (arith, ints, welfare_is p os fs, welfare_is p os gs, paid_same p n os gs fs d e, gains_same p w v m k)

  pub welfare_tie : welfare os gs ≡ welfare os fs → Meets p os gs
  welfare_tie k = gains_tie p w v m (omega (arith, ints, welfare_is p os fs, welfare_is p os gs, paid_same p n os gs fs d e))
