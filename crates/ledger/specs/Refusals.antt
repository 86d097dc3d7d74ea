-- The number and the place of a refused posting.
use Rattle.std.specs.Prelude.{ℕ}
use Rattle.ledger.specs.declared.refusal.PostRefused.{PostRefused}
use Rattle.ledger.specs.declared.refusal.PostRefused.TheVariants.{NotOpen, OutOfBounds}

-- 20: the account is not open; 21: the new balance would be out of bounds
abbrev pub number_of : PostRefused → ℕ
number_of (NotOpen account) = 20
number_of (OutOfBounds account) = 21

-- the account
abbrev pub place_of : PostRefused → ℕ
place_of (NotOpen account) = account
place_of (OutOfBounds account) = account
