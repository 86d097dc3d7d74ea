-- A slice of numbers that holds those of the orders, then those of the blocks.
use Rattle.std.proofs.Common.{◌≡◌, ℕ, ◌+◌, ◌-◌, List, ◌++◌, length, take, drop, sym, ap, ◌∙◌, ap₂, arith}
use borrow.Rule.Slice.PartMut.{put_mid}
use Rattle.std.proofs.lemmas.List.{take_at, drop_at, drop-drop}

-- both parts written, one after the other
pub both_written : (a b : ℕ) (xs ys zs : List ℕ) → length ys ≡ a → length zs ≡ b → put_mid a (a + b - a) (ys ++ drop a xs) zs ≡ ys ++ (zs ++ drop (a + b) xs)
both_written a b xs ys zs e f =
    let front : take a (ys ++ drop a xs) ≡ ys = take_at ys (drop a xs) a e in
    let m : a + b - a ≡ b = omega arith in
    let back : drop (a + b - a) (drop a (ys ++ drop a xs)) ≡ drop (a + b) xs =
    ap (drop (a + b - a)) (drop_at ys (drop a xs) a e) ∙ ap (λ p. drop p (drop a xs)) m ∙ drop-drop b a xs in
    ap₂ (λ p q. p ++ (zs ++ q)) front back

-- the two parts of such a slice
module _ (a b : ℕ) (xs ys zs rest : List ℕ) (first : length ys ≡ a) (second : length zs ≡ b) (is : xs ≡ ys ++ (zs ++ rest)) where
  pub first_part : take a xs ≡ ys
  first_part = ap (take a) is ∙ take_at ys (zs ++ rest) a first

  pub second_part : take b (drop a xs) ≡ zs
  second_part = ap (λ l. take b (drop a l)) is ∙ ap (take b) (drop_at ys (zs ++ rest) a first) ∙ take_at zs rest b second

  pub past_parts : drop (a + b) xs ≡ rest
  past_parts = sym (drop-drop b a xs) ∙ ap (λ l. drop b (drop a l)) is ∙ ap (drop b) (drop_at ys (zs ++ rest) a first) ∙ drop_at zs rest b second

-- the second part, when the first is written
pub second_kept : (a b : ℕ) (xs ys : List ℕ) → length ys ≡ a → take (a + b - a) (drop a (ys ++ drop a xs)) ≡ take b (drop a xs)
second_kept a b xs ys e =
    let m : a + b - a ≡ b = omega arith in
    ap₂ (λ p q. take p q) m (drop_at ys (drop a xs) a e)
