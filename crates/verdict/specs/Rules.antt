-- The rules on fills, as the checks that the verdict makes.
use Rattle.std.specs.Prelude.{ℕ, ◌-◌, Bool, not, ◌||◌, List, [], ◌∷◌, ℤ, pos, ◌+ℤ◌, ◌-ℤ◌, ◌*ℤ◌, Result, ◌==◌, int_le, int_lt, slice_index_or, unsigned_abs}
use Rattle.std.specs.List.{between}
use Rattle.market.specs.declared.records.Side.{Side}
use Rattle.market.specs.declared.records.Side.TheVariants.{Sell, Buy}
use Rattle.market.specs.declared.records.Order.{Order}
use Rattle.market.specs.declared.records.Block.{Block}
use Rattle.market.specs.declared.records.Interval.{Interval}
use Rattle.market.specs.declared.refusal.Refusal.{Refusal}
use Rattle.market.specs.declared.refusal.Refusal.TheVariants.{OverQuantity, ShouldBeEmpty, ShouldBeFull, BelowLeast, BlockPrice}
use Rattle.market.specs.Bounds.{full}
use Rattle.market.specs.First.{tests}
use Rattle.market.specs.Blank.{fresh}

-- a quantity in thousandths, 100 to a step
abbrev pub thousandths : ℤ → ℤ
thousandths q = pos 100 *ℤ q

-- ---- the quantity

-- a fill of at most the quantity
abbrev pub within : ℤ → ℕ → Bool
within q f = int_le (pos f) (thousandths q)

-- 13: the fill of a quantity of q steps at the entry k
abbrev pub quantity_rule : ℤ → ℕ → ℕ → Result Unit Refusal
quantity_rule q f k = tests ((within q f, OverQuantity k) ∷ [])

-- ---- the orders

-- the price of the interval numbered i, from 1
abbrev pub price_at : List Interval → ℤ → ℤ
price_at day i = (slice_index_or day (unsigned_abs i - 1) fresh).price

-- the limit is worse than the price: the order is to be empty
abbrev pub misses : Side → ℤ → ℤ → Bool
misses Sell limit price = int_lt price limit
misses Buy limit price = int_lt limit price

-- the limit is better than the price: the order is to be full
abbrev pub beats : Side → ℤ → ℤ → Bool
beats Sell limit price = int_lt limit price
beats Buy limit price = int_lt price limit

-- 14, 15: an order's fill beside the price of its interval
abbrev pub order_price : List Interval → Order → ℕ → ℕ → Result Unit Refusal
order_price day o f k = tests
    ((not (misses o.side o.limit (price_at day o.interval)) || (f == 0), ShouldBeEmpty k)
    ∷ (not (beats o.side o.limit (price_at day o.interval)) || full o.quantity f, ShouldBeFull k)
    ∷ [])

-- ---- the blocks

-- at least the least percentage of the quantity
abbrev pub enough : Block → ℕ → Bool
enough b f = int_le (b.least *ℤ thousandths b.quantity) (pos 100 *ℤ pos f)

-- the prices of intervals added up
abbrev pub price_sum : List Interval → ℤ
price_sum [] = pos 0
price_sum (x ∷ xs) = x.price +ℤ price_sum xs

-- the prices of a block's intervals added up
abbrev pub block_prices : List Interval → Block → ℤ
block_prices day b = price_sum (between (unsigned_abs b.first - 1) (unsigned_abs b.last) day)

-- the number of a block's intervals
abbrev pub span : Block → ℤ
span b = (b.last -ℤ b.first) +ℤ pos 1

-- the prices are at least as good as the limit
abbrev pub pays : Side → ℤ → ℤ → Bool
pays Sell limits prices = int_le limits prices
pays Buy limits prices = int_le prices limits

-- 16, 17: a block's fill beside its least percentage and the prices of its intervals
abbrev pub block_price : List Interval → Block → ℕ → ℕ → Result Unit Refusal
block_price day b f k = tests
    ((f == 0 || enough b f, BelowLeast k)
    ∷ (f == 0 || pays b.side (b.limit *ℤ span b) (block_prices day b), BlockPrice k)
    ∷ [])
