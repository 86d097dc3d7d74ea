-- Two models joined at a number: the accounts below it are the first's, the others the second's.
use Rattle.std.specs.Prelude.{ℕ, Bool, false, cond, List, [], ◌∷◌, ◌++◌, Some, None, Option, nat_lt}
use Rattle.ledger.specs.declared.account.Account.{Account}

-- the leading accounts below b: models ascend, so these are all that are below b
abbrev pub below : ℕ → List Account → List Account
below b [] = []
below b (a ∷ rest) = cond (nat_lt a.number b) (a ∷ below b rest) []

-- the accounts that follow them: all from b on
abbrev pub from_on : ℕ → List Account → List Account
from_on b [] = []
from_on b (a ∷ rest) = cond (nat_lt a.number b) (from_on b rest) (a ∷ rest)

-- the first's below b, then the second's from b on
abbrev pub join : ℕ → List Account → List Account → List Account
join b m k = below b m ++ from_on b k

-- whether a number is there and below b
abbrev pub is_below : ℕ → Option ℕ → Bool
is_below b None = false
is_below b (Some n) = nat_lt n b
