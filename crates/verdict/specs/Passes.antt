-- What a paper on a book has to keep, in the words of the rules.
use Rattle.std.specs.Prelude.{◌≡◌, ℕ, ◌+◌, ◌<◌, ◌≤◌, List, length, ℤ, pos, ◌*ℤ◌, neg_ℤ, ◌≤ℤ◌, ◌<ℤ◌, slice_index_or}
use Rattle.std.specs.List.{AllByRecursion as Every}
use Rattle.market.specs.declared.records.Side.{Side}
use Rattle.market.specs.declared.records.Side.TheVariants.{Sell, Buy}
use Rattle.market.specs.declared.records.Order.{Order}
use Rattle.market.specs.declared.records.Block.{Block}
use Rattle.market.specs.declared.records.Interval.{Interval}
use Rattle.market.specs.Blank.{fresh}
use Rattle.std.specs.List.{AllZip}
use Rattle.verdict.specs.Rules.{thousandths, price_at, block_prices, span}
use Rattle.verdict.specs.Balance.{net_of}
use Rattle.verdict.specs.Verdict.{Sized}

-- ---- the records are in order

-- from low to high, both allowed
abbrev pub FromTo : ℤ → ℤ → ℤ → Type 0
FromTo low high z = (low ≤ℤ z) × (z ≤ℤ high)

-- the bounds that an order and a block have in common
pub record Terms (limit quantity account : ℤ) : Type 0 where
  pub priced : FromTo (neg_ℤ (pos 50000)) (pos 400000) limit
  pub sized : FromTo (pos 1) (pos 10000) quantity
  pub owned : FromTo (pos 2) (pos 65535) account

-- an order within the bounds of entry of a day of n intervals
pub record LawfulOrder (n : ℕ) (o : Order) : Type 0 where
  pub in_day : FromTo (pos 1) (pos n) o.interval
  pub terms : Terms o.limit o.quantity o.account

-- a block within the bounds of entry of a day of n intervals
pub record LawfulBlock (n : ℕ) (b : Block) : Type 0 where
  pub starts : FromTo (pos 1) (pos n) b.first
  pub ends : FromTo (pos 1) (pos n) b.last
  pub onward : b.first ≤ℤ b.last
  pub terms : Terms b.limit b.quantity b.account
  pub share : FromTo (pos 1) (pos 100) b.least

-- every order and every block of the book is within the bounds of entry
pub record LawfulBook (n : ℕ) (os : List Order) (bs : List Block) : Type 0 where
  pub orders : Every (LawfulOrder n) os
  pub blocks : Every (LawfulBlock n) bs

-- a day of at most 100 intervals, and a paper with one fill to each entry
pub record Fits (day : List Interval) (os : List Order) (fs : List ℕ) (bs : List Block) (gs : List ℕ) : Type 0 where
  pub short : length day ≤ 100
  pub sized : Sized os fs bs gs

-- ---- the rules on fills

-- a fill of at most the quantity
abbrev pub WithinQuantity : ℤ → ℕ → Type 0
WithinQuantity q f = pos f ≤ℤ thousandths q

-- no fill where the limit is worse than the price
abbrev pub EmptyIfWorse : Side → ℤ → ℤ → ℕ → Type 0
EmptyIfWorse Sell limit price f = price <ℤ limit → f ≡ 0
EmptyIfWorse Buy limit price f = limit <ℤ price → f ≡ 0

-- the whole quantity where the limit is better than the price
abbrev pub FullIfBetter : Side → ℤ → ℤ → ℤ → ℕ → Type 0
FullIfBetter Sell limit price q f = limit <ℤ price → thousandths q ≤ℤ pos f
FullIfBetter Buy limit price q f = price <ℤ limit → thousandths q ≤ℤ pos f

-- the order of the book beside the price of its interval
pub record OrderMeetsPrice (day : List Interval) (o : Order) (f : ℕ) : Type 0 where
  pub empty : EmptyIfWorse o.side o.limit (price_at day o.interval) f
  pub full : FullIfBetter o.side o.limit (price_at day o.interval) o.quantity f

-- a filled block has at least its least percentage of its quantity
abbrev pub BlockMeetsLeast : Block → ℕ → Type 0
BlockMeetsLeast b f = 0 < f → (b.least *ℤ thousandths b.quantity) ≤ℤ (pos 100 *ℤ pos f)

-- the prices are at least as good as the limits
abbrev pub Pays : Side → ℤ → ℤ → Type 0
Pays Sell limits prices = limits ≤ℤ prices
Pays Buy limits prices = prices ≤ℤ limits

-- over its intervals a filled block's prices add up to at least its limits, those of a buy to at most
abbrev pub BlockMeetsPrice : List Interval → Block → ℕ → Type 0
BlockMeetsPrice day b f = 0 < f → Pays b.side (b.limit *ℤ span b) (block_prices day b)

-- the block of the book beside its percentage and its prices
pub record BlockMeets (day : List Interval) (b : Block) (f : ℕ) : Type 0 where
  pub least : BlockMeetsLeast b f
  pub price : BlockMeetsPrice day b f

-- no fill exceeds its quantity
pub record WithinBook (os : List Order) (fs : List ℕ) (bs : List Block) (gs : List ℕ) : Type 0 where
  pub orders : AllZip (λ o. WithinQuantity o.quantity) os fs
  pub blocks : AllZip (λ b. WithinQuantity b.quantity) bs gs

-- in the interval at a place, from 0, sales less purchases are the net position
abbrev pub BalancedAt : List Interval → List Order → List ℕ → List Block → List ℕ → ℕ → Type 0
BalancedAt day os fs bs gs i = net_of (1 + i) os fs bs gs ≡ (slice_index_or day i fresh).net

-- every interval of the day balances
abbrev pub Balanced : List Interval → List Order → List ℕ → List Block → List ℕ → Type 0
Balanced day os fs bs gs = (i : ℕ) → i < length day → BalancedAt day os fs bs gs i

-- the paper keeps every rule
pub record Passes (day : List Interval) (os : List Order) (fs : List ℕ) (bs : List Block) (gs : List ℕ) : Type 0 where
  pub within : WithinBook os fs bs gs
  pub orders : AllZip (OrderMeetsPrice day) os fs
  pub blocks : AllZip (BlockMeets day) bs gs
  pub balanced : Balanced day os fs bs gs
