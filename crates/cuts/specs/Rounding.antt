-- A fill, in thousandths of a megawatt, as whole steps.
use Rattle.std.specs.Prelude.{ℕ, ◌+◌, ◌*◌, ◌/◌, ◌<◌, ◌≤◌}

-- A step is 100: the nearest number of steps, a half upward.
abbrev pub nearest : ℕ → ℕ
nearest fill = (fill + 50) / 100

-- 100 r − fill lies above −50 and is at most 50.
pub record Nearest (fill r : ℕ) : Type 0 where
  pub above : fill < 100 * r + 50
  pub most : 100 * r ≤ fill + 50
