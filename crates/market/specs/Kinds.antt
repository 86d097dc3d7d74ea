-- The two kinds of entries of a book, as the rules and the cuts see them.
use Rattle.std.specs.Prelude.{ℕ, Bool, ℤ, pos, Result}
use Rattle.market.specs.declared.records.Side.{Side}
use Rattle.market.specs.declared.records.Order.{Order}
use Rattle.market.specs.declared.records.Block.{Block}
use Rattle.market.specs.declared.refusal.Refusal.{Refusal}
use Rattle.market.specs.Bounds.{same, within_range, order_bounds, block_bounds}

-- what both kinds have: a side, the intervals that an entry is of, a quantity in steps, a limit in cents per MWh, a stamp in
-- seconds, an account, and the bounds of entry in a day of so many intervals
pub record Kind (X : Type 0) : Type 0 where
  pub side : X → Side
  pub covers : X → ℕ → Bool
  pub quantity : X → ℤ
  pub limit : X → ℤ
  pub stamp : X → ℤ
  pub account : X → ℤ
  pub bounds : ℕ → X → Result Unit Refusal

-- an order is of one interval
abbrev pub orders : Kind Order
orders = record {
  side = λ o. o.side;
  covers = λ o i. same o.interval (pos i);
  quantity = λ o. o.quantity;
  limit = λ o. o.limit;
  stamp = λ o. o.stamp;
  account = λ o. o.account;
  bounds = order_bounds;
}

-- a block is of each interval from its first to its last
abbrev pub blocks : Kind Block
blocks = record {
  side = λ b. b.side;
  covers = λ b i. within_range b.first b.last (pos i);
  quantity = λ b. b.quantity;
  limit = λ b. b.limit;
  stamp = λ b. b.stamp;
  account = λ b. b.account;
  bounds = block_bounds;
}
