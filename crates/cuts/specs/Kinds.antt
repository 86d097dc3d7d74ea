-- The candidates that the entries of a book stand for.
use Rattle.std.specs.Prelude.{ℕ, ℤ, neg_ℤ}
use Rattle.market.specs.declared.records.Side.{Side}
use Rattle.market.specs.declared.records.Side.TheVariants.{Sell, Buy}
use Rattle.market.specs.declared.records.Order.{Order}
use Rattle.market.specs.declared.records.Block.{Block}
use Rattle.market.specs.Kinds.{Kind, orders, blocks}
use Rattle.cuts.specs.declared.candidates.BlockCandidate.{BlockCandidate}
use Rattle.cuts.specs.declared.candidates.OrderCandidate.{OrderCandidate}

-- a sell ranks by the lower limit, a buy by the higher
abbrev pub price_key : Side → ℤ → ℤ
price_key Sell limit = limit
price_key Buy limit = neg_ℤ limit

-- what ranks an entry of a kind with so many rounded steps, at a place among the entries of its kind
abbrev pub ranking : {X : Type 0} → Kind X → X → ℕ → ℕ → BlockCandidate
ranking kind x n k = record { steps = record { 0 = n }; limit = price_key (kind.side x) (kind.limit x); stamp = kind.stamp x; account = kind.account x; entry = k }

-- the candidate of a block
abbrev pub block_stands : Block → ℕ → ℕ → BlockCandidate
block_stands b n k = ranking blocks b n k

-- the candidate of an order
abbrev pub order_stands : Order → ℕ → ℕ → OrderCandidate
order_stands o n k = record { market = o.market; rest = ranking orders o n k }
