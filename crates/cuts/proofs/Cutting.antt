-- What the stages of a kind leave, from what the code has at hand.
use Rattle.std.proofs.Common.{◌≡◌, ℕ, ◌+◌, List, ◌++◌, length, take, drop, ℤ, nat_abs, refl, ◌∙◌, ap₂}
use Rattle.market.specs.declared.records.Order.{Order}
use Rattle.market.specs.declared.records.Block.{Block}
use Rattle.market.specs.Kinds.{orders, blocks}
use Rattle.cuts.specs.Numbers.{rounded_numbers}
use Rattle.cuts.specs.declared.gather.Filled.{Filled}
use Rattle.cuts.specs.Stages.{Rule, last_step}
use Rattle.cuts.specs.Settled.{two_stages, order_places, block_places, stage_of, gap_of, orders_cut, blocks_cut, settled_orders, settled_blocks, settled_numbers, balance}
use Rattle.std.proofs.lemmas.List.{length-append}
use Rattle.cuts.proofs.Parts.{first_part, second_part}
use Rattle.cuts.proofs.Walks.{length-rounded}
use Rattle.cuts.proofs.Turns.{length-turns}

pub orders_cut_is : (os os' : List Order) (fs fs' : List ℕ) (i : ℕ) (gap gap' : ℤ) (ns : List ℕ) (k : ℕ) → os' ≡ os → fs' ≡ fs → gap' ≡ gap → ns ≡ rounded_numbers orders i os fs → k ≡ nat_abs gap
    → two_stages last_step (λ f. order_places os' fs' (stage_of i gap' f)) ns k ≡ orders_cut os fs i gap
unfolding orders_cut
orders_cut_is os os' fs fs' i gap gap' ns k a b e f h = rw (a, b, e, f, h) refl

pub blocks_cut_is : (bs bs' : List Block) (gs gs' : List ℕ) (i : ℕ) (gap gap' : ℤ) (ns : List ℕ) (k left : ℕ) → bs' ≡ bs → gs' ≡ gs → gap' ≡ gap → ns ≡ rounded_numbers blocks i bs gs → k ≡ left
    → two_stages last_step (λ f. block_places bs' gs' (stage_of i gap' f)) ns k ≡ blocks_cut bs gs i gap left
unfolding blocks_cut
blocks_cut_is bs bs' gs gs' i gap gap' ns k left a b e f h = rw (a, b, e, f, h) refl

pub balance_is : (os : List Order) (bs : List Block) (xs ns ms rest : List ℕ) (r : ℤ) → length ns ≡ length os → length ms ≡ length bs → xs ≡ ns ++ (ms ++ rest)
    → balance os bs (take (length os) xs) (take (length bs) (drop (length os) xs)) r ≡ balance os bs ns ms r
balance_is os bs xs ns ms rest r f g h =
    ap₂ (λ u v. balance os bs u v r) (first_part (length os) (length bs) xs ns ms rest f g h) (second_part (length os) (length bs) xs ns ms rest f g h)

length_stages : (rule : Rule) (places : Filled → List ℕ) (ns : List ℕ) (g : ℕ) → length (two_stages rule places ns g).numbers ≡ length ns
length_stages rule places ns g = length-turns rule _ 0 _ _ ∙ length-turns rule _ 0 ns g

pub length-orders_cut : (os : List Order) (fs : List ℕ) (i : ℕ) (gap : ℤ) → length fs ≡ length os → length (orders_cut os fs i gap).numbers ≡ length os
unfolding orders_cut
length-orders_cut os fs i gap e = length_stages last_step (λ f. order_places os fs (stage_of i gap f)) (rounded_numbers orders i os fs) (nat_abs gap) ∙ length-rounded orders i os fs e

pub length-blocks_cut : (bs : List Block) (gs : List ℕ) (i : ℕ) (gap : ℤ) (left : ℕ) → length gs ≡ length bs → length (blocks_cut bs gs i gap left).numbers ≡ length bs
unfolding blocks_cut
length-blocks_cut bs gs i gap left e = length_stages last_step (λ f. block_places bs gs (stage_of i gap f)) (rounded_numbers blocks i bs gs) left ∙ length-rounded blocks i bs gs e

module _ (os : List Order) (fs : List ℕ) (bs : List Block) (gs : List ℕ) (i : ℕ) (r : ℤ) where
  pub length_settled_orders : length fs ≡ length os → length (settled_orders os fs bs gs i r) ≡ length os
  unfolding settled_orders
  length_settled_orders e = length-orders_cut os fs i (gap_of os fs bs gs i r) e

  pub length_settled_blocks : length gs ≡ length bs → length (settled_blocks os fs bs gs i r) ≡ length bs
  unfolding settled_blocks
  length_settled_blocks e = length-blocks_cut bs gs i (gap_of os fs bs gs i r) (orders_cut os fs i (gap_of os fs bs gs i r)).left e

  pub length_settled : length fs ≡ length os → length gs ≡ length bs → length (settled_numbers os fs bs gs i r) ≡ length os + length bs
  unfolding settled_numbers
  length_settled e f = length-append (settled_orders os fs bs gs i r) (settled_blocks os fs bs gs i r) ∙ ap₂ ◌+◌ (length_settled_orders e) (length_settled_blocks f)
