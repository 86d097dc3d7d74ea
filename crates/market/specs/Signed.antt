-- Sells count plus, and buys minus.
use Rattle.std.specs.Prelude.{ℕ, ℤ, pos, neg_ℤ, ◌≤ℤ◌}
use Rattle.market.specs.declared.records.Side.{Side}
use Rattle.market.specs.declared.records.Side.TheVariants.{Sell, Buy}

-- what an amount adds to sells less buys
abbrev pub signed : Side → ℕ → ℤ
signed Sell n = pos n
signed Buy n = neg_ℤ (pos n)

-- z lies within m of 0
pub record Within (m : ℕ) (z : ℤ) : Type 0 where
  pub low : neg_ℤ (pos m) ≤ℤ z
  pub high : z ≤ℤ pos m
