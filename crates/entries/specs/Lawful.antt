-- What the terms of an interval may be.
use Rattle.std.specs.Prelude.{ℕ, Bool, ◌||◌, ℤ, pos, neg_ℤ, ◌==◌}
use Rattle.market.specs.Bounds.{within_range}

-- a rounded net position, in steps, that is less than a step away from a lawful net position
abbrev pub rounded_ok : ℤ → Bool
rounded_ok r = within_range (neg_ℤ (pos 11000000)) (pos 11000000) r

-- an interval has 1, 2 or 4 quarters of an hour
abbrev pub quarters_ok : ℕ → Bool
quarters_ok q = q == 1 || (q == 2 || q == 4)
