-- The settled numbers of an interval: the rounded ones, cut in four stages.
use Rattle.std.specs.Prelude.{◌≡◌, ℕ, ◌+◌, ◌≤◌, Bool, ◌&&◌, List, ◌++◌, length, map, ℤ, ◌+ℤ◌, ◌-ℤ◌, nat_le, unsigned_abs}
use Rattle.market.specs.declared.records.Order.{Order}
use Rattle.market.specs.declared.records.Block.{Block}
use Rattle.cuts.specs.declared.candidates.Lists.{Lists}
use Rattle.cuts.specs.declared.gather.Filled.{Filled}
use Rattle.cuts.specs.declared.gather.Filled.TheVariants.{Partly, Full}
use Rattle.cuts.specs.declared.gather.Stage.{Stage}
use Rattle.market.specs.Bounds.{limits_ok, each_filled}
use Rattle.market.specs.Kinds.{Kind, orders, blocks}
use Rattle.cuts.specs.Kinds.{order_stands, block_stands}
use Rattle.cuts.specs.Ranks.{order_before, block_before}
use Rattle.cuts.specs.Ordered.{ranked}
use Rattle.cuts.specs.Eligible.{candidates}
use Rattle.cuts.specs.Numbers.{rounded_numbers, net}
use Rattle.cuts.specs.Stages.{Rule, Cut, last_step, stage_cut}

-- the places of a stage's candidates, in rank order
abbrev pub ranked_places : {X C : Type 0} → Kind X → (X → ℕ → ℕ → C) → (C → C → Bool) → (C → ℕ) → List X → List ℕ → Stage → List ℕ
ranked_places kind stands before place xs fs s = map place (ranked before (candidates kind stands s xs fs 0))

-- of the orders
abbrev pub order_places : List Order → List ℕ → Stage → List ℕ
order_places os fs s = ranked_places orders order_stands order_before (λ c. c.rest.entry) os fs s

-- of the blocks
abbrev pub block_places : List Block → List ℕ → Stage → List ℕ
block_places bs gs s = ranked_places blocks block_stands block_before (λ c. c.entry) bs gs s

-- the stage of an interval and its gap for entries so filled
abbrev pub stage_of : ℕ → ℤ → Filled → Stage
stage_of i gap filled = record { interval = i; gap = gap; filled = filled }

-- The two stages of a kind of entry, of which the places in rank order are given: the partly filled, then the full.
abbrev pub two_stages : Rule → (Filled → List ℕ) → List ℕ → ℕ → Cut
two_stages rule places ns gap = stage_cut rule (places Full) (stage_cut rule (places Partly) ns gap).numbers (stage_cut rule (places Partly) ns gap).left

-- Sells less buys less R, by the numbers of the orders and of the blocks: with the rounded numbers it is the gap, with the
-- settled ones the remainder.
abbrev pub balance : List Order → List Block → List ℕ → List ℕ → ℤ → ℤ
balance os bs ns ms r = (net orders os ns +ℤ net blocks bs ms) -ℤ r

-- the gap of an interval, from orders and blocks with their fills, the interval and R
unfoldable pub gap_of : List Order → List ℕ → List Block → List ℕ → ℕ → ℤ → ℤ
gap_of os fs bs gs i r = balance os bs (rounded_numbers orders i os fs) (rounded_numbers blocks i bs gs) r

-- what the stages of the orders leave of the gap without its sign, and of their numbers
unfoldable pub orders_cut : List Order → List ℕ → ℕ → ℤ → Cut
orders_cut os fs i gap = two_stages last_step (λ f. order_places os fs (stage_of i gap f)) (rounded_numbers orders i os fs) (unsigned_abs gap)

-- and those of the blocks, of what the orders left
unfoldable pub blocks_cut : List Block → List ℕ → ℕ → ℤ → ℕ → Cut
blocks_cut bs gs i gap left = two_stages last_step (λ f. block_places bs gs (stage_of i gap f)) (rounded_numbers blocks i bs gs) left

-- the settled numbers of the orders
unfoldable pub settled_orders : List Order → List ℕ → List Block → List ℕ → ℕ → ℤ → List ℕ
settled_orders os fs bs gs i r = (orders_cut os fs i (gap_of os fs bs gs i r)).numbers

-- and of the blocks
unfoldable pub settled_blocks : List Order → List ℕ → List Block → List ℕ → ℕ → ℤ → List ℕ
settled_blocks os fs bs gs i r = (blocks_cut bs gs i (gap_of os fs bs gs i r) (orders_cut os fs i (gap_of os fs bs gs i r)).left).numbers

-- the settled number of each order, then of each block; 0 for those that are not of the interval
unfoldable pub settled_numbers : List Order → List ℕ → List Block → List ℕ → ℕ → ℤ → List ℕ
settled_numbers os fs bs gs i r = settled_orders os fs bs gs i r ++ settled_blocks os fs bs gs i r

-- settled sells less settled buys less R
unfoldable pub remainder_of : List Order → List ℕ → List Block → List ℕ → ℕ → ℤ → ℤ
remainder_of os fs bs gs i r = balance os bs (settled_orders os fs bs gs i r) (settled_blocks os fs bs gs i r) r

-- at most 1,024 orders and 64 blocks, each with a fill, and a number for each
abbrev pub sizes_fit : ℕ → ℕ → ℕ → ℕ → ℕ → Bool
sizes_fit o of b bf n = (limits_ok o b && each_filled o of b bf) && nat_le (o + b) n

-- the same, as facts
pub record Sizes (o of b bf n : ℕ) : Type 0 where
  pub orders : o ≤ 1024
  pub blocks : b ≤ 64
  pub order_fills : of ≡ o
  pub block_fills : bf ≡ b
  pub room : o + b ≤ n

-- a place for each possible candidate
abbrev pub lists_fit : ℕ → ℕ → ℕ → ℕ → Bool
lists_fit o ol b bl = nat_le o ol && nat_le b bl

-- the same lists, whatever they hold
pub record SameLists (l l' : Lists) : Type 0 where
  pub orders : l'.orders.ghost_name ≡ l.orders.ghost_name
  pub blocks : l'.blocks.ghost_name ≡ l.blocks.ghost_name
  pub order_count : length l'.orders.now ≡ length l.orders.now
  pub block_count : length l'.blocks.now ≡ length l.blocks.now
