-- The laws of the settled numbers, from those of the stages.
use Rattle.std.proofs.Common.{◌≡◌, ℕ, ◌+◌, ◌-◌, ◌*◌, ◌≤◌, List, length, ℤ, pos, negsuc, ◌+ℤ◌, ◌-ℤ◌, nat_abs, sym, refl, ap, ◌∙◌, add-mul, arith}
use borrow.Author.Differences.{ints}
use Rattle.market.specs.declared.records.Side.{Side}
use Rattle.market.specs.declared.records.Side.TheVariants.{Sell, Buy}
use Rattle.market.specs.declared.records.Order.{Order}
use Rattle.market.specs.declared.records.Block.{Block}
use Rattle.cuts.specs.declared.gather.Filled.{Filled}
use Rattle.market.specs.Kinds.{orders, blocks}
use Rattle.cuts.specs.Kinds.{order_stands, block_stands}
use Rattle.cuts.specs.Ranks.{order_before, block_before}
use Rattle.market.specs.Signed.{signed}
use Rattle.cuts.specs.Numbers.{rounded_numbers, net}
use Rattle.cuts.specs.Settled.{order_places, block_places, stage_of, gap_of, orders_cut, blocks_cut, settled_orders, settled_blocks, remainder_of}
use Rattle.cuts.specs.SettledLaws.{cut_side, open_cuts_of, Settles}
use Rattle.cuts.proofs.Standing.{places_eligible, places_apart}
use Rattle.cuts.proofs.Walks.{signed-size, rounded_most, net_most}
use Rattle.cuts.proofs.TwoStages.{StagesRight, stages_right}

abbrev stages_of_orders : List Order → List ℕ → ℕ → ℤ → Filled → List ℕ
stages_of_orders os fs i gap f = order_places os fs (stage_of i gap f)

abbrev stages_of_blocks : List Block → List ℕ → ℕ → ℤ → Filled → List ℕ
stages_of_blocks bs gs i gap f = block_places bs gs (stage_of i gap f)

orders_right : (os : List Order) (fs : List ℕ) (i : ℕ) (gap : ℤ)
    → StagesRight orders i gap os fs (stages_of_orders os fs i gap)
    (λ f. places_apart orders order_stands order_before (λ c. c.rest.entry) (λ x n k. refl) (stage_of i gap f) os fs)
    (λ f. places_eligible orders order_stands order_before (λ c. c.rest.entry) (λ x n k. refl) (stage_of i gap f) os fs)
    (nat_abs gap) (orders_cut os fs i gap)
unfolding orders_cut
orders_right os fs i gap = stages_right orders i gap os fs (stages_of_orders os fs i gap) _ _ (nat_abs gap)

blocks_right : (bs : List Block) (gs : List ℕ) (i : ℕ) (gap : ℤ) (left : ℕ)
    → StagesRight blocks i gap bs gs (stages_of_blocks bs gs i gap)
    (λ f. places_apart blocks block_stands block_before (λ c. c.entry) (λ x n k. refl) (stage_of i gap f) bs gs)
    (λ f. places_eligible blocks block_stands block_before (λ c. c.entry) (λ x n k. refl) (stage_of i gap f) bs gs)
    left (blocks_cut bs gs i gap left)
unfolding blocks_cut
blocks_right bs gs i gap left = stages_right blocks i gap bs gs (stages_of_blocks bs gs i gap) _ _ left

-- What the stages leave of the gap is what is left of sells less buys less R.
left-signed : (gap o b o' b' r : ℤ) (l m : ℕ) → gap ≡ ((o +ℤ b) -ℤ r) → l ≤ nat_abs gap → m ≤ l
    → (o' +ℤ signed (cut_side gap) (nat_abs gap - l)) ≡ o → (b' +ℤ signed (cut_side gap) (l - m)) ≡ b → ((o' +ℤ b') -ℤ r) ≡ signed (cut_side gap) m
left-signed (pos n) o b o' b' r l m e h k p q = omega (arith, ints)
left-signed (negsuc n) o b o' b' r l m e h k p q = omega (arith, ints)

size_most : (gap o b r : ℤ) (x y : ℕ) → gap ≡ ((o +ℤ b) -ℤ r) → nat_abs o ≤ x → nat_abs b ≤ y → nat_abs gap ≤ x + y + nat_abs r
size_most gap o b r x y e h k = omega (arith, ints)

signed_zero : (d : Side) → signed d 0 ≡ pos 0
signed_zero Sell = refl
signed_zero Buy = refl

module _ (os : List Order) (fs : List ℕ) (bs : List Block) (gs : List ℕ) (i : ℕ) (r : ℤ) where
  gap_is : gap_of os fs bs gs i r ≡ ((net orders os (rounded_numbers orders i os fs) +ℤ net blocks bs (rounded_numbers blocks i bs gs)) -ℤ r)
  unfolding gap_of
  gap_is = refl

  pub settles : Settles os fs bs gs i r
  unfolding remainder_of settled_orders settled_blocks open_cuts_of
  settles =
      let gap = gap_of os fs bs gs i r in
      let d = cut_side gap in
      let g = nat_abs gap in
      let a = orders_right os fs i gap in
      let l = (orders_cut os fs i gap).left in
      let b = blocks_right bs gs i gap l in
      let m = (blocks_cut bs gs i gap l).left in
      let n = open_cuts_of os fs bs gs i r in
      let whole : gap ≡ ((net orders os (rounded_numbers orders i os fs) +ℤ net blocks bs (rounded_numbers blocks i bs gs)) -ℤ r) = gap_is in
      let rest : remainder_of os fs bs gs i r ≡ signed d m =
      left-signed gap (net orders os (rounded_numbers orders i os fs)) (net blocks bs (rounded_numbers blocks i bs gs))
      (net orders os (orders_cut os fs i gap).numbers) (net blocks bs (blocks_cut bs gs i gap l).numbers) r l m whole a.within b.within a.nets b.nets in
      let left : m ≡ g - n = omega (arith, a.left, b.left) in
      let size : nat_abs (remainder_of os fs bs gs i r) ≡ m = ap nat_abs rest ∙ signed-size d m in
      record {
        remainder = rest ∙ ap (signed d) left;
        reached = λ e. let z : m ≡ 0 = sym size ∙ ap nat_abs e in omega arith;
        reaches = λ h. let z : m ≡ 0 = omega arith in rest ∙ ap (signed d) z ∙ signed_zero d;
        lost = omega (arith, a.sums, b.sums, a.within, b.within);
        orders_most = λ k. omega (arith, a.right.fewer k, rounded_most orders i os fs k);
        blocks_most = λ k. omega (arith, b.right.fewer k, rounded_most blocks i bs gs k);
        small = λ n h k.
            let t = size_most gap (net orders os (rounded_numbers orders i os fs)) (net blocks bs (rounded_numbers blocks i bs gs)) r (length fs * n) (length gs * n) whole (net_most orders i os fs n h) (net_most blocks i bs gs n k) in
            omega (arith, add-mul (length fs) (length gs) n);
        orders_right = a.right;
        blocks_right = b.right;
      }
