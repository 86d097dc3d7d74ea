-- Four laws of products of signed numbers.
use Rattle.std.proofs.Common.{◌≡◌, ℕ, ◌*◌, ℤ, ◌+ℤ◌, ◌*ℤ◌, neg_ℤ, ap, arith}
use borrow.Author.Differences.{ints, up, down, sum_is_lem, neg_is}

-- each at the atom that stands first, so that `simp` can use them from left to right
pub add-mul : (a b c : ℤ) → (a +ℤ b) *ℤ c ≡ a *ℤ c +ℤ b *ℤ c
add-mul a b c = omega (arith, ints, ap (λ (n : ℕ). n * up c) (sum_is_lem a b), ap (λ (n : ℕ). n * down c) (sum_is_lem a b))

pub mul-add : (c a b : ℤ) → c *ℤ (a +ℤ b) ≡ c *ℤ a +ℤ c *ℤ b
mul-add c a b = omega (arith, ints, ap (λ (n : ℕ). up c * n) (sum_is_lem a b), ap (λ (n : ℕ). down c * n) (sum_is_lem a b))

pub neg-mul : (a c : ℤ) → neg_ℤ a *ℤ c ≡ neg_ℤ (a *ℤ c)
neg-mul a c = omega (arith, ints, ap (λ (n : ℕ). n * up c) (neg_is a).0, ap (λ (n : ℕ). n * down c) (neg_is a).0, ap (λ (n : ℕ). n * up c) (neg_is a).1, ap (λ (n : ℕ). n * down c) (neg_is a).1)

pub mul-neg : (c a : ℤ) → c *ℤ neg_ℤ a ≡ neg_ℤ (c *ℤ a)
mul-neg c a = omega (arith, ints, ap (λ (n : ℕ). up c * n) (neg_is a).0, ap (λ (n : ℕ). down c * n) (neg_is a).0, ap (λ (n : ℕ). up c * n) (neg_is a).1, ap (λ (n : ℕ). down c * n) (neg_is a).1)
