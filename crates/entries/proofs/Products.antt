-- Products of bounded integers: no amount overflows.
use Rattle.std.proofs.Common.{◌≡◌, ℕ, ◌≤◌, true, ℤ, pos, ◌*ℤ◌, neg_ℤ, unsigned_abs, mul-le-mul, arith, w32, w64, SFits, to_z, of_z}
use borrow.Author.Differences.{ints, abs_is}
use Rattle.std.proofs.lemmas.Int.{to_z-of_z, unsigned_abs-mul, fits_signed_mul}
use Rattle.std.proofs.lemmas.Bool.Decides.{nat_tests}
use Rattle.market.proofs.Facts.{priced}
use Rattle.market.specs.Signed.{Within}
use Rattle.entries.specs.Lawful.{quarters_ok}
use Rattle.entries.specs.Amounts.{conditions, worth}
use Rattle.entries.specs.declared.terms.Terms.{Terms}

pub at_most_four : (q : ℕ) → quarters_ok q ≡ true → q ≤ 4
at_most_four q e = grind (arith, nat_tests)

module _ (t : Terms) (z : ℤ) (w : Within 4294967296 z) where
  -- price × steps
  pub priced_small : unsigned_abs (t.price *ℤ z) ≤ 1717986918400000
  priced_small = let s : unsigned_abs z ≤ 4294967296 = omega (arith, ints, abs_is z) in rw unsigned_abs-mul (mul-le-mul (priced t.price t.lawful.0) s)

  pub priced_fits : SFits w64 (t.price *ℤ z)
  priced_fits = let s : unsigned_abs z ≤ 4294967296 = omega (arith, ints, abs_is z) in fits_signed_mul w64 t.price z 400000 4294967296 (priced t.price t.lawful.0) s (omega arith)

  -- the amount
  pub worth_small : unsigned_abs (worth (conditions t) z) ≤ 6871947673600000
  worth_small = rw unsigned_abs-mul (mul-le-mul priced_small (at_most_four t.quarters t.lawful.2))

  -- and minus it
  pub owed_small : unsigned_abs (neg_ℤ (worth (conditions t) z)) ≤ 6871947673600000
  owed_small = let s = worth_small in omega (arith, ints, abs_is (worth (conditions t) z))

  pub worth_fits : SFits w64 (worth (conditions t) z)
  worth_fits = fits_signed_mul w64 (t.price *ℤ z) (pos t.quarters) 1717986918400000 4 priced_small (at_most_four t.quarters t.lawful.2) (omega arith)

  -- the amount as the code computes it, from its price and its quarters as 64-bit numbers
  pub amount_is : (p q : ℤ) → p ≡ to_z w32 (of_z w32 t.price) → q ≡ pos t.quarters → to_z w64 (of_z w64 (to_z w64 (of_z w64 p) *ℤ to_z w64 (of_z w64 z))) *ℤ to_z w64 (of_z w64 q) ≡ worth (conditions t) z
  amount_is p q e f =
      let b = priced t.price t.lawful.0 in
      let c = at_most_four t.quarters t.lawful.2 in
      let price : p ≡ t.price = omega (arith, ints, abs_is t.price) in
      let p64 : to_z w64 (of_z w64 t.price) ≡ t.price = omega (arith, ints, abs_is t.price) in
      let z64 : to_z w64 (of_z w64 z) ≡ z = omega (arith, ints, w.low, w.high) in
      let q64 : to_z w64 (of_z w64 (pos t.quarters)) ≡ pos t.quarters = omega (arith, ints) in
      let product = to_z-of_z w64 (t.price *ℤ z) priced_fits in
      rw (price, f) (simp (p64, z64, q64, product))
