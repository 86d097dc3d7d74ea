-- The postings of voiding: the opposite of booking's and settling's, last first.
use Rattle.std.proofs.Common.{◌≡◌, ℕ, zero, suc, ◌+◌, ◌-◌, false, eqb, List, [], ◌∷◌, ◌++◌, map, reverse, length, ℤ, ◌-ℤ◌, neg_ℤ, Some, None, Option, MatchOption, IsSomeAnd, sym, refl, ap, ◌∙◌, ap₂, arith}
use Rattle.std.specs.Option.{option_map}
use Rattle.std.proofs.lemmas.Bool.{ne_eqb}
use Rattle.std.proofs.lemmas.Int.{ints}
use Rattle.std.proofs.lemmas.List.{append_assoc, append-nil, map-append, reverse-append}
use Rattle.market.specs.declared.records.Order.{Order}
use Rattle.market.specs.declared.records.Block.{Block}
use Rattle.cuts.specs.Settled.{balance}
use Rattle.posting.specs.declared.posting.Posting.{Posting}
use Rattle.posting.specs.Postings.{one, listed, amounts}
use Rattle.entries.specs.Amounts.{Conditions, worth, booking, opposite, void_slot, settle_postings, void_postings}
use Rattle.entries.specs.Voids.{Reversal, settled_slot, void_list}
use Rattle.entries.proofs.Adding.{amounts_are}
use Rattle.entries.proofs.Sums.{amounts-append}

-- ---- the places

-- past the first place stands the opposite of what settling has there, last first
pub void_at : (f : ℕ → Option Posting) (n : ℕ) (p : Posting) (k : ℕ) → (k ≡ 0 → ⊥) → void_slot f n p k ≡ option_map opposite (f (n - k))
void_at f n p k away = let e : eqb k 0 ≡ false = ne_eqb k 0 away in rw e

-- each value is the opposite of what was mapped
pub mapped : (o r : Option Posting) → MatchOption o (r ≡ None) (λ p. IsSomeAnd r (λ q. q ≡ opposite p)) → r ≡ option_map opposite o
mapped None r h = h
mapped (Some p) None h = absurd h
mapped (Some p) (Some q) h = ap (λ (x : Posting). Some x) h

-- ---- the list of the places

-- places that have the same are one list
listed_same : (f g : ℕ → Option Posting) (n : ℕ) → ((k : ℕ) → f k ≡ g k) → listed f n ≡ listed g n
listed_same f g zero h = refl
listed_same f g (suc n) h = ap₂ (λ l o. l ++ one o) (listed_same f g n h) (h n)

-- the first place, and then the others
listed_front : (f : ℕ → Option Posting) (n : ℕ) → listed f (suc n) ≡ one (f 0) ++ listed (λ k. f (suc k)) n
listed_front f zero = sym (append-nil (one (f 0)))
listed_front f (suc n) = ap (λ l. l ++ one (f (suc n))) (listed_front f n) ∙ append_assoc (one (f 0)) (listed (λ k. f (suc k)) n) (one (f (suc n)))

-- of one place, or of none
one_opposite : (o : Option Posting) → reverse (map opposite (one o)) ≡ one (option_map opposite o)
one_opposite None = refl
one_opposite (Some p) = refl

-- read last first, the opposites are the list turned round
listed_back : (f : ℕ → Option Posting) (n : ℕ) → listed (λ k. option_map opposite (f (n - suc k))) n ≡ reverse (map opposite (listed f n))
listed_back f zero = refl
listed_back f (suc n) =
    let last : suc n - 1 ≡ n = omega arith in
    let before : (k : ℕ) → suc n - suc (suc k) ≡ n - suc k = λ k. omega arith in
    listed_front (λ k. option_map opposite (f (suc n - suc k))) n
    ∙ ap₂ (λ (j : ℕ) (l : List Posting). one (option_map opposite (f j)) ++ l) last
    (listed_same _ _ n (λ k. ap (λ j. option_map opposite (f j)) (before k)) ∙ listed_back f n)
    ∙ ap (λ l. l ++ reverse (map opposite (listed f n))) (sym (one_opposite (f n)))
    ∙ sym (reverse-append (map opposite (listed f n)) (map opposite (one (f n))))
    ∙ ap reverse (sym (map-append opposite (listed f n) (one (f n))))

-- all places of voiding
listed_void : (f : ℕ → Option Posting) (n : ℕ) (p : Posting) → listed (void_slot f n p) (suc n) ≡ reverse (map opposite (listed f n ++ p ∷ []))
listed_void f n p =
    listed_front (void_slot f n p) n
    ∙ ap (λ l. opposite p ∷ l) (listed_same _ _ n (λ k. void_at f n p (suc k) (λ e. omega arith)) ∙ listed_back f n)
    ∙ sym (reverse-append (map opposite (listed f n)) (opposite p ∷ []))
    ∙ ap reverse (sym (map-append opposite (listed f n) (p ∷ [])))

-- what voiding reads by place is its list of postings
pub voids_listed : (x : Reversal) (s : List ℕ)
    → listed (void_slot (settled_slot x s) (suc (length x.orders + length x.blocks)) (booking x.by x.steps)) (suc (suc (length x.orders + length x.blocks))) ≡ void_list x s
unfolding void_list void_postings settle_postings
voids_listed x s = listed_void (settled_slot x s) (suc (length x.orders + length x.blocks)) (booking x.by x.steps)

-- ---- what they add up to

-- the opposites add up to the opposite
amounts_back : (ps : List Posting) → amounts (reverse (map opposite ps)) ≡ neg_ℤ (amounts ps)
amounts_back [] = refl
amounts_back (p ∷ ps) =
    let a = reverse-append (opposite p ∷ []) (map opposite ps) in
    let b = amounts-append (reverse (map opposite ps)) (opposite p ∷ []) in
    let again = amounts_back ps in
    ap amounts a ∙ b ∙ omega (arith, ints)

-- all of them: the worth of the remainder less that of sells less buys less R
pub voids_are : (os : List Order) (bs : List Block) (ns ms : List ℕ) (t : Conditions) (steps : ℤ) → length ns ≡ length os → length ms ≡ length bs
    → amounts (void_postings os bs (ns ++ ms) t steps) ≡ worth t steps -ℤ worth t (balance os bs ns ms t.rounded)
unfolding void_postings
voids_are os bs ns ms t steps e f =
    let ps = settle_postings os bs (ns ++ ms) t in
    let back = amounts_back (ps ++ booking t steps ∷ []) in
    let parts = amounts-append ps (booking t steps ∷ []) in
    let settled = amounts_are os bs ns ms t e f in
    back ∙ omega (arith, ints)
