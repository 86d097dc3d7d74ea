-- What the tests of the bounds of entry tell.
use Rattle.std.proofs.Common.{◌≡◌, ℕ, ◌≤◌, Bool, true, false, ◌&&◌, List, [], ◌∷◌, ℤ, pos, neg_ℤ, nat_abs, ◌≤ℤ◌, Ok, sym, refl, ⊎_elim, arith}
use lib.Signed.{le_z}
use borrow.Author.Differences.{ints, abs_is}
use Rattle.std.specs.List.{AllByRecursion as Every}
use Rattle.std.proofs.lemmas.Bool.{and_parts, and_from, cases_Bool}
use Rattle.market.specs.declared.records.Block.{Block}
use Rattle.market.specs.declared.records.Order.{Order}
use Rattle.market.specs.First.{tests}
use Rattle.market.specs.Bounds.{same, in_day, price_ok, quantity_ok, account_ok, least_ok, span_ok, order_table, order_bounds, block_table, block_bounds}

-- a table of tests that refuses nothing: each test passes
pub tests_out : {E : Type 0} → (ts : List (Bool × E)) → tests ts ≡ Ok tt → Every (λ t. t.0 ≡ true) ts
tests_out [] e = tt
tests_out ((true, r) ∷ ts) e = (refl, tests_out ts e)
tests_out ((false, r) ∷ ts) e = let z : ◌≡◌ {A = ℕ} 0 1 = cc in absurd (omega arith)

pub tests_back : {E : Type 0} → (ts : List (Bool × E)) → Every (λ t. t.0 ≡ true) ts → tests ts ≡ Ok tt
tests_back [] a = refl
tests_back ((true, r) ∷ ts) a = tests_back ts a.1
tests_back ((false, r) ∷ ts) a = let z : ◌≡◌ {A = Bool} false true = a.0 in absurd (let n : ◌≡◌ {A = ℕ} 0 1 = cc in omega arith)

pub between_two : (a z b : ℤ) → (le_z a z && le_z z b) ≡ true → (a ≤ℤ z) × (z ≤ℤ b)
between_two a z b e = let p = and_parts (le_z a z) (le_z z b) e in (omega (arith, ints), omega (arith, ints))

-- what the bounds of entry say of an order, test by test
pub record OrderTests (n : ℕ) (o : Order) : Type 0 where
  pub interval : in_day n o.interval ≡ true
  pub limit : price_ok o.limit ≡ true
  pub quantity : quantity_ok o.quantity ≡ true
  pub account : account_ok o.account ≡ true

pub order_tests : (n : ℕ) (o : Order) → order_bounds n o ≡ Ok tt → OrderTests n o
order_tests n o e = let p = tests_out (order_table n o) e in record { interval = p.0; limit = p.1.0; quantity = p.1.1.0; account = p.1.1.1.0 }

-- what the bounds of entry say of a block, test by test
pub record BlockTests (n : ℕ) (b : Block) : Type 0 where
  pub spans : span_ok n b.first b.last ≡ true
  pub limit : price_ok b.limit ≡ true
  pub quantity : quantity_ok b.quantity ≡ true
  pub least : least_ok b.least ≡ true
  pub account : account_ok b.account ≡ true

pub block_tests : (n : ℕ) (b : Block) → block_bounds n b ≡ Ok tt → BlockTests n b
block_tests n b e =
    let p = tests_out (block_table n b) e in
    record { spans = p.0; limit = p.1.0; quantity = p.1.1.0; least = p.1.1.1.0; account = p.1.1.1.1.0 }

pub priced : (l : ℤ) → price_ok l ≡ true → nat_abs l ≤ 400000
priced l e = let p = between_two (neg_ℤ (pos 50000)) l (pos 400000) e in omega (arith, ints, abs_is l)

pub sized : (q : ℤ) → quantity_ok q ≡ true → (pos 1 ≤ℤ q) × (q ≤ℤ pos 10000)
sized q e = between_two (pos 1) q (pos 10000) e

pub shared : (p : ℤ) → least_ok p ≡ true → (pos 1 ≤ℤ p) × (p ≤ℤ pos 100)
shared p e = between_two (pos 1) p (pos 100) e

module _ (n : ℕ) (first last : ℤ) (e : span_ok n first last ≡ true) where
  pub from_first : (pos 1 ≤ℤ first) × (first ≤ℤ pos n)
  from_first = between_two (pos 1) first (pos n) (and_parts (in_day n first) (in_day n last && le_z first last) e).0

  pub to_last : (pos 1 ≤ℤ last) × (last ≤ℤ pos n)
  to_last = between_two (pos 1) last (pos n) (and_parts (in_day n last) (le_z first last) (and_parts (in_day n first) (in_day n last && le_z first last) e).1).0

  pub first_last : first ≤ℤ last
  first_last = let p = (and_parts (in_day n last) (le_z first last) (and_parts (in_day n first) (in_day n last && le_z first last) e).1).1 in omega (arith, ints)

-- ---- the test of equality
pub same_yes : (a b : ℤ) → a ≡ b → same a b ≡ true
same_yes a b e = and_from (le_z a b) (le_z b a) (sym (omega (arith, ints))) (sym (omega (arith, ints)))

pub same_true : (a b : ℤ) → same a b ≡ true → a ≡ b
same_true a b e = let p = and_parts (le_z a b) (le_z b a) e in omega (arith, ints)

pub same_no : (a b : ℤ) → (a ≡ b → ⊥) → same a b ≡ false
same_no a b n = ⊎_elim (λ e. absurd (n (same_true a b e))) (λ e. e) (cases_Bool (same a b))
