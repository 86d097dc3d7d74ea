-- The operator's two accounts: 0, the exchange, and 1, for balancing.
use Rattle.std.specs.Prelude.{ℕ, cond, List, [], ◌∷◌, ℤ, pos, ◌+ℤ◌, neg_ℤ, ◌≤ℤ◌, Ok, Err, Result}
use Rattle.ledger.specs.declared.account.Account.{Account}
use Rattle.ledger.specs.declared.refusal.PostRefused.{PostRefused}
use Rattle.ledger.specs.declared.refusal.PostRefused.TheVariants.{OutOfBounds}
use Rattle.ledger.specs.Model.{limit, within}

-- an account with the widest bounds
abbrev pub wide : ℕ → ℤ → Account
wide n z = record { number = n; balance = z; lower = neg_ℤ (pos limit); upper = pos limit }

-- the two accounts with their balances
abbrev pub operators : ℤ → ℤ → List Account
operators exchange balancing = wide 0 exchange ∷ wide 1 balancing ∷ []

-- a balance is between the widest bounds
abbrev pub InLimit : ℤ → Type 0
InLimit z = (neg_ℤ (pos limit) ≤ℤ z) × (z ≤ℤ pos limit)

-- the new balance of such an account, or the refusal
abbrev pub widened : ℕ → ℤ → ℤ → Result ℤ PostRefused
widened n z x = cond (within (wide n z) (z +ℤ x)) (Ok (z +ℤ x)) (Err (OutOfBounds n))
