-- What an accepted phase gives to the next ones.
use Rattle.std.proofs.Common.{◌≡◌, ℕ, ◌≤◌, true, List, [], ◌∷◌, length, Ok, Err, Result, refl, ◌∙◌, arith}
use Rattle.std.proofs.lemmas.Bool.Decides.{nat_tests}
use Rattle.market.specs.declared.records.Order.{Order}
use Rattle.market.specs.declared.records.Block.{Block}
use Rattle.market.specs.declared.records.Interval.{Interval}
use Rattle.market.specs.declared.refusal.Refusal.{Refusal}
use Rattle.std.specs.List.{AllZip}
use Rattle.market.specs.Bounds.{in_day, order_bounds, block_bounds, outside}
use Rattle.verdict.specs.Rules.{within, quantity_rule}
use Rattle.verdict.specs.Worths.{Mild, Spans}
use Rattle.verdict.specs.Verdict.{lengths_ok, paper_lengths, lengths, Sized, bounds, quantities, next}
use Rattle.verdict.specs.Passes.{Fits}
use Rattle.verdict.specs.Walks.{first_in, first_filled}
use Rattle.verdict.proofs.Firsts.{then_ok, in_filled, each_out}
use Rattle.verdict.proofs.Eachs.{each_map, each_both}
use Rattle.market.proofs.Facts.{tests_out, tests_back, order_tests, block_tests, priced}
use Rattle.verdict.proofs.Sizes.{fill_small, span_small}

-- ---- the lengths
pub sized_from : (n : ℕ) (os : List Order) (fs : List ℕ) (bs : List Block) (gs : List ℕ) → paper_lengths n os fs bs gs ≡ Ok tt → (n ≤ 100) × Sized os fs bs gs
sized_from n os fs bs gs e =
    let t : lengths_ok n os fs bs gs ≡ true = (tests_out ((lengths_ok n os fs bs gs, _) ∷ []) e).0 in
    (grind (arith, nat_tests), record { orders = grind (arith, nat_tests); blocks = grind (arith, nat_tests); few = grind (arith, nat_tests); fewer = grind (arith, nat_tests) })

pub fits_from : (day : List Interval) (os : List Order) (fs : List ℕ) (bs : List Block) (gs : List ℕ) → lengths day os fs bs gs ≡ Ok tt → Fits day os fs bs gs
fits_from day os fs bs gs e = let p = sized_from (length day) os fs bs gs e in record { short = p.0; sized = p.1 }

pub fits_test : (day : List Interval) (os : List Order) (fs : List ℕ) (bs : List Block) (gs : List ℕ) → Fits day os fs bs gs → lengths_ok (length day) os fs bs gs ≡ true
fits_test day os fs bs gs h = let z = h.sized in grind (arith, nat_tests)

pub fits_back : (day : List Interval) (os : List Order) (fs : List ℕ) (bs : List Block) (gs : List ℕ) → Fits day os fs bs gs → lengths day os fs bs gs ≡ Ok tt
fits_back day os fs bs gs h = tests_back ((lengths_ok (length day) os fs bs gs, _) ∷ []) (fits_test day os fs bs gs h, tt)

-- ---- the bounds of entry
pub outside_out : (k : ℕ) (r : Result Unit Refusal) → outside k r ≡ Ok tt → r ≡ Ok tt
outside_out k (Ok u) e = refl
outside_out k (Err d) e = cc

module _ {X : Type 0} (entry : X → Result Unit Refusal) where
  pub entered : (xs : List X) (fs : List ℕ) (k : ℕ) → length xs ≡ length fs → first_in (λ x n. outside n (entry x)) xs k ≡ Ok tt → AllZip (λ x f. entry x ≡ Ok tt) xs fs
  entered xs fs k s e =
      each_out (λ x f n. outside n (entry x)) (λ x f. entry x ≡ Ok tt) (λ x f j. outside_out j (entry x)) xs fs k s (in_filled (λ x n. outside n (entry x)) xs fs k s ∙ e)

module _ (n : ℕ) (os : List Order) (fs : List ℕ) (bs : List Block) (gs : List ℕ) (z : Sized os fs bs gs) (b : bounds n os bs ≡ Ok tt) where
  pub orders_entered : AllZip (λ o f. order_bounds n o ≡ Ok tt) os fs
  orders_entered = entered (order_bounds n) os fs 1 z.orders (then_ok (first_in (λ o k. outside k (order_bounds n o)) os 1) _ tt b).0

  pub blocks_entered : AllZip (λ b f. block_bounds n b ≡ Ok tt) bs gs
  blocks_entered = entered (block_bounds n) bs gs (next os) z.blocks (then_ok (first_in (λ o k. outside k (order_bounds n o)) os 1) (first_in (λ b k. outside k (block_bounds n b)) bs (next os)) tt b).1

  -- what the rules of the price ask of the book
  pub orders_in_day : AllZip (λ o f. in_day n o.interval ≡ true) os fs
  orders_in_day = each_map _ _ (λ o f e. (order_tests n o e).interval) os fs orders_entered

  -- what the welfare asks of the paper
  module _ (q : quantities os fs bs gs ≡ Ok tt) where
    order_fits : AllZip (λ o f. within o.quantity f ≡ true) os fs
    order_fits = each_out (λ o. quantity_rule o.quantity) (λ o f. within o.quantity f ≡ true) (λ o f j e. (tests_out ((within o.quantity f, _) ∷ []) e).0) os fs 1 z.orders (then_ok (first_filled (λ o. quantity_rule o.quantity) os fs 1) _ tt q).0

    block_fits : AllZip (λ b f. within b.quantity f ≡ true) bs gs
    block_fits = each_out (λ b. quantity_rule b.quantity) (λ b f. within b.quantity f ≡ true) (λ b f j e. (tests_out ((within b.quantity f, _) ∷ []) e).0) bs gs (next os) z.blocks (then_ok (first_filled (λ o. quantity_rule o.quantity) os fs 1) (first_filled (λ b. quantity_rule b.quantity) bs gs (next os)) tt q).1

    pub orders_mild : AllZip (λ o f. Mild o.limit f) os fs
    orders_mild = each_both _ _ _ (λ o f e w. let t = order_tests n o e in (priced o.limit t.limit, fill_small o.quantity f t.quantity w)) os fs orders_entered order_fits

    pub blocks_mild : n ≤ 100 → AllZip (λ b f. Mild b.limit f × Spans b) bs gs
    blocks_mild h = each_both _ _ _ (λ b f e w. let t = block_tests n b e in ((priced b.limit t.limit, fill_small b.quantity f t.quantity w), span_small n b h t.spans)) bs gs blocks_entered block_fits
