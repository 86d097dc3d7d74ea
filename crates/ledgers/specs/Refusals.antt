-- The number and the place of a refused table.
use Rattle.std.specs.Prelude.{ℕ}
use Rattle.ledgers.specs.declared.refusal.TableRefused.{TableRefused}
use Rattle.ledgers.specs.declared.refusal.TableRefused.TheVariants.{OutsideRun}

-- 9: a record is no account of the table
abbrev pub number_of : TableRefused → ℕ
number_of (OutsideRun place) = 9

-- the record's place, from 1
abbrev pub place_of : TableRefused → ℕ
place_of (OutsideRun place) = place
