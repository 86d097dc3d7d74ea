-- The verdict: the phases in their order.
use Rattle.std.specs.Prelude.{◌≡◌, ℕ, ◌+◌, ◌≤◌, Bool, ◌&&◌, List, [], ◌∷◌, length, ℤ, Ok, Result}
use Rattle.market.specs.declared.records.Order.{Order}
use Rattle.market.specs.declared.records.Block.{Block}
use Rattle.market.specs.declared.records.Interval.{Interval}
use Rattle.market.specs.declared.refusal.Refusal.{Refusal}
use Rattle.market.specs.declared.refusal.Refusal.TheVariants.{Short}
use Rattle.market.specs.First.{tests}
use Rattle.std.specs.Result.{result_and}
use Rattle.verdict.specs.Walks.{first_in, first_filled}
use Rattle.market.specs.Bounds.{sizes_ok, each_filled, order_bounds, block_bounds, outside}
use Rattle.verdict.specs.Rules.{quantity_rule, order_price, block_price}
use Rattle.verdict.specs.Balance.{interval_balance, welfare}

-- one fill to each entry, and no more entries than a book can have
pub record Sized (os : List Order) (fs : List ℕ) (bs : List Block) (gs : List ℕ) : Type 0 where
  pub orders : length os ≡ length fs
  pub blocks : length bs ≡ length gs
  pub few : length os ≤ 1024
  pub fewer : length bs ≤ 64

-- no more intervals, orders and blocks than there can be, and a fill for each entry
abbrev pub lengths_ok : ℕ → List Order → List ℕ → List Block → List ℕ → Bool
lengths_ok n os fs bs gs = sizes_ok n (length os) (length bs) && each_filled (length os) (length fs) (length bs) (length gs)

-- 11: a paper of lawful lengths, in a day of n intervals
abbrev pub paper_lengths : ℕ → List Order → List ℕ → List Block → List ℕ → Result Unit Refusal
paper_lengths n os fs bs gs = tests ((lengths_ok n os fs bs gs, Short) ∷ [])

-- the same of a day
abbrev pub lengths : List Interval → List Order → List ℕ → List Block → List ℕ → Result Unit Refusal
lengths day os fs bs gs = paper_lengths (length day) os fs bs gs

-- the entry of the first block
abbrev pub next : List Order → ℕ
next os = length os + 1

-- 12, by entry, in a day of n intervals
abbrev pub bounds : ℕ → List Order → List Block → Result Unit Refusal
bounds n os bs = result_and (first_in (λ o k. outside k (order_bounds n o)) os 1) (first_in (λ b k. outside k (block_bounds n b)) bs (next os))

-- 13, by entry
abbrev pub quantities : List Order → List ℕ → List Block → List ℕ → Result Unit Refusal
quantities os fs bs gs =
    result_and (first_filled (λ o. quantity_rule o.quantity) os fs 1) (first_filled (λ b. quantity_rule b.quantity) bs gs (next os))

-- 11, 12, 13: a paper on a book in a day of n intervals, before any price is looked at
abbrev pub paper_checks : ℕ → List Order → List ℕ → List Block → List ℕ → Result Unit Refusal
paper_checks n os fs bs gs = result_and (paper_lengths n os fs bs gs) (result_and (bounds n os bs) (quantities os fs bs gs))

-- 11, 12: a book without a paper
abbrev pub book_checks : ℕ → List Order → List Block → Result Unit Refusal
book_checks n os bs = result_and (tests ((sizes_ok n (length os) (length bs), Short) ∷ [])) (bounds n os bs)

-- 14 and 15 by entry of the orders, then 16 and 17 by entry of the blocks
abbrev pub prices : List Interval → List Order → List ℕ → List Block → List ℕ → Result Unit Refusal
prices day os fs bs gs = result_and (first_filled (order_price day) os fs 1) (first_filled (block_price day) bs gs (next os))

-- 18, by interval
abbrev pub balances : List Interval → List Order → List ℕ → List Block → List ℕ → Result Unit Refusal
balances day os fs bs gs = first_in (interval_balance os fs bs gs) day 1

-- the first rule that is broken, and where, or the welfare
abbrev pub verdict_of : List Interval → List Order → List ℕ → List Block → List ℕ → Result ℤ Refusal
verdict_of day os fs bs gs =
    result_and (lengths day os fs bs gs)
    (result_and (bounds (length day) os bs)
    (result_and (quantities os fs bs gs)
    (result_and (prices day os fs bs gs)
    (result_and (balances day os fs bs gs)
    (Ok (welfare os fs bs gs))))))
