-- The balance of an interval, and the welfare of a paper.
use Rattle.std.specs.Prelude.{ℕ, cond, List, [], ◌∷◌, ℤ, pos, ◌+ℤ◌, ◌*ℤ◌, neg_ℤ, Result}
use Rattle.market.specs.declared.records.Side.{Side}
use Rattle.market.specs.declared.records.Side.TheVariants.{Sell, Buy}
use Rattle.market.specs.declared.records.Order.{Order}
use Rattle.market.specs.declared.records.Block.{Block}
use Rattle.market.specs.declared.records.Interval.{Interval}
use Rattle.market.specs.declared.refusal.Refusal.{Refusal}
use Rattle.market.specs.declared.refusal.Refusal.TheVariants.{Unbalanced}
use Rattle.market.specs.First.{tests}
use Rattle.verdict.specs.Sums.{sum_filled}
use Rattle.market.specs.Bounds.{same}
use Rattle.market.specs.Kinds.{Kind, orders, blocks}
use Rattle.market.specs.Signed.{signed}
use Rattle.verdict.specs.Rules.{span}

-- what an entry's fill adds to sales less purchases in the interval t, if the entry is of it
abbrev pub sale_in : {X : Type 0} → Kind X → ℕ → X → ℕ → ℤ
sale_in kind t x f = cond (kind.covers x t) (signed (kind.side x) f) (pos 0)

-- sales less purchases in the interval t, blocks included
abbrev pub net_of : ℕ → List Order → List ℕ → List Block → List ℕ → ℤ
net_of t os fs bs gs = sum_filled (sale_in orders t) os fs +ℤ sum_filled (sale_in blocks t) bs gs

-- 18: sales less purchases are the net position of the interval t
abbrev pub interval_balance : List Order → List ℕ → List Block → List ℕ → Interval → ℕ → Result Unit Refusal
interval_balance os fs bs gs x t = tests ((same (net_of t os fs bs gs) x.net, Unbalanced t) ∷ [])

-- what a fill adds to the welfare in one interval
abbrev pub worth : Side → ℤ → ℕ → ℤ
worth Sell limit f = neg_ℤ (limit *ℤ pos f)
worth Buy limit f = limit *ℤ pos f

-- what an order adds to the welfare
abbrev pub order_worth : Order → ℕ → ℤ
order_worth o f = worth o.side o.limit f

-- what a block adds to the welfare: once for each of its intervals
abbrev pub block_worth : Block → ℕ → ℤ
block_worth b f = worth b.side b.limit f *ℤ span b

-- the welfare of a paper
abbrev pub welfare : List Order → List ℕ → List Block → List ℕ → ℤ
welfare os fs bs gs = sum_filled order_worth os fs +ℤ sum_filled block_worth bs gs
