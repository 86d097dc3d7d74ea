-- The bounds under which welfare is added up.
use Rattle.std.specs.Prelude.{ℕ, ◌≤◌, ℤ, pos, ◌≤ℤ◌, unsigned_abs}
use Rattle.market.specs.declared.records.Block.{Block}
use Rattle.verdict.specs.Rules.{span}

-- a limit and a fill within the bounds of entry
abbrev pub Mild : ℤ → ℕ → Type 0
Mild limit f = (unsigned_abs limit ≤ 400000) × (f ≤ 1000000)

-- a block of 1 to 100 intervals
abbrev pub Spans : Block → Type 0
Spans b = (pos 1 ≤ℤ span b) × (span b ≤ℤ pos 100)
