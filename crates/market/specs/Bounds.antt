-- The bounds of entry: what the numbers of a day, of an interval's terms, of an order and of a block may be.
use Rattle.std.specs.Prelude.{ℕ, Bool, ◌&&◌, ◌||◌, List, [], ◌∷◌, ℤ, pos, ◌-ℤ◌, ◌*ℤ◌, neg_ℤ, Ok, Err, Result, int_le, int_lt, nat_le, ◌==◌}
use Rattle.market.specs.declared.records.Order.{Order}
use Rattle.market.specs.declared.records.Block.{Block}
use Rattle.market.specs.declared.refusal.Refusal.{Refusal}
use Rattle.market.specs.declared.refusal.Refusal.TheVariants.{Minutes, Count, NoInterval, Price, NetPosition, Quantity, Account, Percentage, OutsideBounds}
use Rattle.market.specs.First.{tests}

-- two numbers are the same
abbrev pub same : ℤ → ℤ → Bool
same a b = int_le a b && int_le b a

-- a number from low to high, both allowed
abbrev pub within_range : ℤ → ℤ → ℤ → Bool
within_range low high z = int_le low z && int_le z high

-- an interval lasts 15, 30 or 60 minutes
abbrev pub minutes_ok : ℤ → Bool
minutes_ok m = same m (pos 15) || (same m (pos 30) || same m (pos 60))

-- a day has 1 to 100 intervals
abbrev pub count_ok : ℤ → Bool
count_ok n = within_range (pos 1) (pos 100) n

-- the intervals of a day of n are numbered from 1
abbrev pub in_day : ℕ → ℤ → Bool
in_day n i = within_range (pos 1) (pos n) i

-- a price, in cents per MWh
abbrev pub price_ok : ℤ → Bool
price_ok p = within_range (neg_ℤ (pos 50000)) (pos 400000) p

-- a net position in thousandths, with its rounding in steps less than one step away
abbrev pub net_ok : ℤ → ℤ → Bool
net_ok net rounded =
    within_range (neg_ℤ (pos 1100000000)) (pos 1100000000) net
    && (int_lt (neg_ℤ (pos 100)) ((pos 100 *ℤ rounded) -ℤ net) && int_lt ((pos 100 *ℤ rounded) -ℤ net) (pos 100))

-- a quantity, in steps
abbrev pub quantity_ok : ℤ → Bool
quantity_ok q = within_range (pos 1) (pos 10000) q

-- the account of a firm
abbrev pub account_ok : ℤ → Bool
account_ok a = within_range (pos 2) (pos 65535) a

-- a least percentage
abbrev pub least_ok : ℤ → Bool
least_ok p = within_range (pos 1) (pos 100) p

-- the intervals from a first to a last
abbrev pub span_ok : ℕ → ℤ → ℤ → Bool
span_ok n first last = in_day n first && (in_day n last && int_le first last)

-- so many orders and blocks as a book can have
abbrev pub limits_ok : ℕ → ℕ → Bool
limits_ok o b = nat_le o 1024 && nat_le b 64

-- so many intervals as a day can have, and so many orders and blocks as a book can have
abbrev pub sizes_ok : ℕ → ℕ → ℕ → Bool
sizes_ok n o b = nat_le n 100 && limits_ok o b

-- of o orders and b blocks, so many fills as there are of each
abbrev pub each_filled : ℕ → ℕ → ℕ → ℕ → Bool
each_filled o of b bf = o == of && b == bf

-- a fill of at least the quantity of q steps
abbrev pub full : ℤ → ℕ → Bool
full q f = int_le (pos 100 *ℤ q) (pos f)

-- 1, 2: what a day may be started with
abbrev pub start_bounds : ℤ → ℤ → Result Unit Refusal
start_bounds minutes count = tests ((minutes_ok minutes, Minutes) ∷ (count_ok count, Count) ∷ [])

-- 3, 4, 5: the tests of the terms of an interval in a day of n
abbrev pub terms_table : ℕ → ℤ → ℤ → ℤ → ℤ → List (Bool × Refusal)
terms_table n interval price net rounded = (in_day n interval, NoInterval) ∷ (price_ok price, Price) ∷ (net_ok net rounded, NetPosition) ∷ []

-- terms that could be set in a day of n, or why not
abbrev pub terms_bounds : ℕ → ℤ → ℤ → ℤ → ℤ → Result Unit Refusal
terms_bounds n interval price net rounded = tests (terms_table n interval price net rounded)

-- 3, 4, 7, 8: the tests of an order in a day of n
abbrev pub order_table : ℕ → Order → List (Bool × Refusal)
order_table n o =
    (in_day n o.interval, NoInterval) ∷ (price_ok o.limit, Price) ∷ (quantity_ok o.quantity, Quantity) ∷ (account_ok o.account, Account) ∷ []

-- an order that could be entered in a day of n, or why not
abbrev pub order_bounds : ℕ → Order → Result Unit Refusal
order_bounds n o = tests (order_table n o)

-- 10, 8: the tests of a block after its quantity
abbrev pub share_table : Block → List (Bool × Refusal)
share_table b = (least_ok b.least, Percentage) ∷ (account_ok b.account, Account) ∷ []

-- 3, 4, 7, 10, 8: the tests of a block in a day of n
abbrev pub block_table : ℕ → Block → List (Bool × Refusal)
block_table n b =
    (span_ok n b.first b.last, NoInterval) ∷ (price_ok b.limit, Price) ∷ (quantity_ok b.quantity, Quantity) ∷ share_table b

-- a block that could be entered in a day of n, or why not
abbrev pub block_bounds : ℕ → Block → Result Unit Refusal
block_bounds n b = tests (block_table n b)

-- 12 at the entry k: a record that could not be entered
abbrev pub outside : ℕ → Result Unit Refusal → Result Unit Refusal
outside k (Ok _) = Ok tt
outside k (Err _) = Err (OutsideBounds k)
