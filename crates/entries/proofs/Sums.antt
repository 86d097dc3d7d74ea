-- Sums over the first places.
use Rattle.std.proofs.Common.{◌≡◌, ℕ, zero, suc, ◌+◌, ◌<◌, List, [], ◌∷◌, ◌++◌, length, get_or, ℤ, pos, ◌+ℤ◌, Option, sym, refl, ap, ◌∙◌, ap₂, add-zero, add-suc, arith}
use Rattle.std.proofs.lemmas.Int.{ints}
use Rattle.posting.specs.declared.posting.Posting.{Posting}
use Rattle.posting.specs.Postings.{one, listed, amounts}
use Rattle.market.specs.Kinds.{Kind}
use Rattle.market.specs.Signed.{signed}
use Rattle.cuts.specs.Numbers.{net}

-- the sum of f over the first n places
abbrev pub upto : (ℕ → ℤ) → ℕ → ℤ
upto f zero = pos 0
upto f (suc n) = upto f n +ℤ f n

pub upto_same : (f g : ℕ → ℤ) (n : ℕ) → ((k : ℕ) → k < n → f k ≡ g k) → upto f n ≡ upto g n
upto_same f g zero h = refl
upto_same f g (suc n) h = ap₂ (λ a b. a +ℤ b) (upto_same f g n (λ k lt. h k (omega arith))) (h n (omega arith))

upto_front : (f : ℕ → ℤ) (n : ℕ) → upto f (suc n) ≡ f 0 +ℤ upto (λ k. f (suc k)) n
upto_front f zero = omega (arith, ints)
upto_front f (suc n) = let e = upto_front f n in omega (arith, ints)

pub upto_split : (f : ℕ → ℤ) (m n : ℕ) → upto f (m + n) ≡ upto f m +ℤ upto (λ k. f (m + k)) n
upto_split f m zero = rw add-zero (omega (arith, ints))
upto_split f m (suc n) = let e = upto_split f m n in rw add-suc (omega (arith, ints))

pub amounts-append : (ps qs : List Posting) → amounts (ps ++ qs) ≡ amounts ps +ℤ amounts qs
amounts-append [] qs = omega (arith, ints)
amounts-append (p ∷ ps) qs = let e = amounts-append ps qs in omega (arith, ints)

-- the amounts at the first places
pub amounts_upto : (f : ℕ → Option Posting) (n : ℕ) → amounts (listed f n) ≡ upto (λ k. amounts (one (f k))) n
amounts_upto f zero = refl
amounts_upto f (suc n) = amounts-append (listed f n) (one (f n)) ∙ ap (λ z. z +ℤ amounts (one (f n))) (amounts_upto f n)

-- sells less buys, by places
pub net_upto : {X : Type 0} (kind : Kind X) (d : X) (xs : List X) (ns : List ℕ) → length ns ≡ length xs → net kind xs ns ≡ upto (λ k. signed (kind.side (get_or xs k d)) (get_or ns k 0)) (length xs)
net_upto kind d [] ns e = refl
net_upto kind d (x ∷ xs) [] e = absurd (omega arith)
net_upto kind d (x ∷ xs) (n ∷ ns) e =
    ap (λ z. signed (kind.side x) n +ℤ z) (net_upto kind d xs ns (omega arith)) ∙ sym (upto_front (λ k. signed (kind.side (get_or (x ∷ xs) k d)) (get_or (n ∷ ns) k 0)) (length xs))
