-- The rows of the sheet.
use Rattle.std.proofs.Common.{ℕ, ◌+◌, ◌-◌, ◌*◌, ◌<◌, ◌≤◌, add-mul, mul-le-mul, one-mul, arith}
use Rattle.entries.specs.Sheet.{Laid, Fits, row_of}

-- each entry has its place
pub fits : (o b n i size : ℕ) → Laid o b n i size → (k : ℕ) → k < o + b → Fits o n i k size
fits o b n i size laid k h =
    let room = laid.room in
    let row : o ≤ k → row_of o n k + n ≤ size = λ past.
    let rows : ((k - o) + 1) * n ≤ b * n = mul-le-mul (omega arith) (omega arith) in
    omega (arith, add-mul (k - o) 1 n, one-mul n) in
    record { from = laid.from; to = laid.to; order = λ lt. omega arith; row = row }
