-- Each test of the verdict passes exactly where its rule is kept.
use Rattle.std.proofs.Common.{◌≡◌, ℕ, ◌<◌, Bool, true, false, not, ◌||◌, eqb, ◌⊎◌, List, [], ◌∷◌, ℤ, ◌*ℤ◌, ◌≤ℤ◌, Ok, Err, sym, refl, ◌∙◌, inl, inr, arith}
use lib.Signed.{le_z}
use borrow.Author.Differences.{ints}
use Rattle.std.proofs.lemmas.Bool.Decides.{nat_tests}
use Rattle.std.proofs.lemmas.Bool.{false≢true}
use Rattle.market.specs.declared.records.Side.{Side}
use Rattle.market.specs.declared.records.Side.TheVariants.{Sell, Buy}
use Rattle.market.specs.declared.records.Order.{Order}
use Rattle.market.specs.declared.records.Block.{Block}
use Rattle.market.specs.declared.records.Interval.{Interval}
use Rattle.market.specs.declared.refusal.Refusal.{Refusal}
use Rattle.market.specs.First.{tests}
use Rattle.market.specs.Bounds as B
use Rattle.market.specs.Bounds.{full}
use Rattle.verdict.specs.Rules as R
use Rattle.verdict.specs.Passes.{FromTo, LawfulOrder, LawfulBlock, EmptyIfWorse, FullIfBetter, OrderMeetsPrice, BlockMeetsLeast, Pays, BlockMeetsPrice, BlockMeets}
use Rattle.market.proofs.Facts.{tests_out, tests_back, between_two, order_tests, block_tests}

-- ---- signed tests
pub is_le : (a b : ℤ) → a ≤ℤ b → le_z a b ≡ true
is_le a b h = sym (omega (arith, ints))

pub le_is : (a b : ℤ) → le_z a b ≡ true → a ≤ℤ b
le_is a b h = omega (arith, ints)

from_to : (low high z : ℤ) → FromTo low high z → B.within_range low high z ≡ true
from_to low high z h = grind (arith, ints)

-- ---- the bounds of entry
pub order_out : (n : ℕ) (o : Order) → B.order_bounds n o ≡ Ok tt → LawfulOrder n o
order_out n o e =
    let t = order_tests n o e in
    record {
      in_day = between_two _ _ _ t.interval;
      terms = record { priced = between_two _ _ _ t.limit; sized = between_two _ _ _ t.quantity; owned = between_two _ _ _ t.account };
    }

pub order_back : (n : ℕ) (o : Order) → LawfulOrder n o → B.order_bounds n o ≡ Ok tt
order_back n o l =
    tests_back (B.order_table n o) (from_to _ _ _ l.in_day, (from_to _ _ _ l.terms.priced, (from_to _ _ _ l.terms.sized, (from_to _ _ _ l.terms.owned, tt))))

pub block_out : (n : ℕ) (b : Block) → B.block_bounds n b ≡ Ok tt → LawfulBlock n b
block_out n b e =
    let t = block_tests n b e in
    let spans = t.spans in
    record {
      starts = grind (arith, ints, nat_tests);
      ends = grind (arith, ints, nat_tests);
      onward = grind (arith, ints, nat_tests);
      terms = record { priced = between_two _ _ _ t.limit; sized = between_two _ _ _ t.quantity; owned = between_two _ _ _ t.account };
      share = between_two _ _ _ t.least;
    }

pub block_back : (n : ℕ) (b : Block) → LawfulBlock n b → B.block_bounds n b ≡ Ok tt
block_back n b l =
    let starts = l.starts in
    let ends = l.ends in
    let onward = l.onward in
    tests_back (B.block_table n b) (grind (arith, ints, nat_tests), (from_to _ _ _ l.terms.priced, (from_to _ _ _ l.terms.sized, (from_to _ _ _ l.share, (from_to _ _ _ l.terms.owned, tt)))))

-- ---- a test of a filled entry
unless_out : (f : ℕ) (b : Bool) → (eqb f 0 || b) ≡ true → 0 < f → b ≡ true
unless_out f b e h = grind (arith, nat_tests)

unless_back : (f : ℕ) (b : Bool) → (0 < f → b ≡ true) → (eqb f 0 || b) ≡ true
unless_back f b h = grind (arith, nat_tests)

-- ---- the rule of the orders
module _ (l p : ℤ) (f : ℕ) where
  pub empty_out : (s : Side) → (not (R.misses s l p) || eqb f 0) ≡ true → EmptyIfWorse s l p f
  empty_out Sell e = λ h. grind (arith, ints, nat_tests)
  empty_out Buy e = λ h. grind (arith, ints, nat_tests)

  pub empty_back : (s : Side) → EmptyIfWorse s l p f → (not (R.misses s l p) || eqb f 0) ≡ true
  empty_back Sell r = grind (arith, ints, nat_tests)
  empty_back Buy r = grind (arith, ints, nat_tests)

  pub full_out : (s : Side) (q : ℤ) → (not (R.beats s l p) || full q f) ≡ true → FullIfBetter s l p q f
  full_out Sell q e = λ h. grind (arith, ints, nat_tests)
  full_out Buy q e = λ h. grind (arith, ints, nat_tests)

  pub full_back : (s : Side) (q : ℤ) → FullIfBetter s l p q f → (not (R.beats s l p) || full q f) ≡ true
  full_back Sell q r = grind (arith, ints, nat_tests)
  full_back Buy q r = grind (arith, ints, nat_tests)

-- ---- the rules of the blocks
pays_out : (s : Side) (l p : ℤ) → R.pays s l p ≡ true → Pays s l p
pays_out Sell l p e = le_is l p e
pays_out Buy l p e = le_is p l e

pays_back : (s : Side) (l p : ℤ) → Pays s l p → R.pays s l p ≡ true
pays_back Sell l p h = is_le l p h
pays_back Buy l p h = is_le p l h

module _ (b : Block) (f : ℕ) where
  pub least_out : (eqb f 0 || R.enough b f) ≡ true → BlockMeetsLeast b f
  least_out e h = grind (arith, ints, nat_tests)

  pub least_back : BlockMeetsLeast b f → (eqb f 0 || R.enough b f) ≡ true
  least_back r = grind (arith, ints, nat_tests)

  module _ (day : List Interval) where
    abbrev pub paid : Bool
    paid = R.pays b.side (b.limit *ℤ R.span b) (R.block_prices day b)

    pub price_out : (eqb f 0 || paid) ≡ true → BlockMeetsPrice day b f
    price_out e h = pays_out b.side (b.limit *ℤ R.span b) (R.block_prices day b) (unless_out f paid e h)

    pub price_back : BlockMeetsPrice day b f → (eqb f 0 || paid) ≡ true
    price_back r = unless_back f paid (λ h. pays_back b.side (b.limit *ℤ R.span b) (R.block_prices day b) (r h))

-- ---- a table of one test, and of two
pub one_err : (a : Bool) (d e : Refusal) → tests ((a, d) ∷ []) ≡ Err e → (a ≡ false) × (e ≡ d)
one_err true d e p = (cc, cc)
one_err false d e p = (refl, cc)

pub two_err : (a b : Bool) (c d e : Refusal) → tests ((a, c) ∷ (b, d) ∷ []) ≡ Err e → ((a ≡ false) × (e ≡ c)) ⊎ ((a ≡ true) × (b ≡ false) × (e ≡ d))
two_err true b c d e p = let q = one_err b d e p in inr (refl, q.0, q.1)
two_err false b c d e p = inl (refl, cc)

-- a test that fails, of a rule that would make it pass
pub fails : {P : Type 0} (a : Bool) → a ≡ false → (P → a ≡ true) → P → ⊥
fails a e back p = false≢true (sym e ∙ back p)

-- ---- one entry beside its prices
module _ (day : List Interval) (o : Order) (f k : ℕ) where
  abbrev at_price : ℤ
  at_price = R.price_at day o.interval

  pub order_price_out : R.order_price day o f k ≡ Ok tt → OrderMeetsPrice day o f
  order_price_out e =
      let t = tests_out ((not (R.misses o.side o.limit at_price) || eqb f 0, _) ∷ (not (R.beats o.side o.limit at_price) || full o.quantity f, _) ∷ []) e in
      record { empty = empty_out o.limit at_price f o.side t.0; full = full_out o.limit at_price f o.side o.quantity t.1.0 }

  pub order_price_back : OrderMeetsPrice day o f → R.order_price day o f k ≡ Ok tt
  order_price_back m =
      tests_back ((not (R.misses o.side o.limit at_price) || eqb f 0, _) ∷ (not (R.beats o.side o.limit at_price) || full o.quantity f, _) ∷ [])
      (empty_back o.limit at_price f o.side m.empty, (full_back o.limit at_price f o.side o.quantity m.full, tt))

module _ (day : List Interval) (b : Block) (f k : ℕ) where
  pub block_price_out : R.block_price day b f k ≡ Ok tt → BlockMeets day b f
  block_price_out e =
      let t = tests_out ((eqb f 0 || R.enough b f, _) ∷ (eqb f 0 || paid b f day, _) ∷ []) e in
      record { least = least_out b f t.0; price = price_out b f day t.1.0 }

  pub block_price_back : BlockMeets day b f → R.block_price day b f k ≡ Ok tt
  block_price_back m = tests_back ((eqb f 0 || R.enough b f, _) ∷ (eqb f 0 || paid b f day, _) ∷ []) (least_back b f m.least, (price_back b f day m.price, tt))
