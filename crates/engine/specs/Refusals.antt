-- The numbers and places of the refusals of the settling calls.
use Rattle.std.specs.Prelude.{ℕ}
use Rattle.ledger.specs.Refusals as posted
use Rattle.market.specs.Refusals as market
use Rattle.engine.specs.declared.refusal.Refusal.{Refusal}
use Rattle.engine.specs.declared.refusal.Refusal.TheVariants.{Market, Posting, NotUnsettled, NotOut, NotNoted, NotClosed}

-- the number by which a refusal is known
abbrev pub number_of : Refusal → ℕ
number_of (Market r) = market.number_of r
number_of (Posting r) = posted.number_of r
number_of NotUnsettled = 19
number_of NotOut = 22
number_of NotNoted = 23
number_of NotClosed = 24

-- the entry, the interval or the account that a refusal speaks of, or 0
abbrev pub place_of : Refusal → ℕ
place_of (Market r) = market.place_of r
place_of (Posting r) = posted.place_of r
place_of NotUnsettled = 0
place_of NotOut = 0
place_of NotNoted = 0
place_of NotClosed = 0
