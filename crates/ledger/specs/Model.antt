-- A ledger's open accounts as an ascending list, and what reading and posting mean on it.
use Rattle.std.specs.Prelude.{ℕ, suc, ◌-◌, ◌<◌, ◌≤◌, Bool, cond, ◌&&◌, List, [], ◌∷◌, length, ℤ, pos, ◌+ℤ◌, neg_ℤ, ◌≤ℤ◌, Some, None, Ok, Err, Option, Result, ◌==◌, int_le, nat_le, nat_lt, slice_index_or}
use Rattle.std.specs.Option.{option_map}
use Rattle.ledger.specs.declared.account.Account.{Account}
use Rattle.ledger.specs.declared.refusal.PostRefused.{PostRefused}
use Rattle.ledger.specs.declared.refusal.PostRefused.TheVariants.{NotOpen, OutOfBounds}

-- the widest bounds, in grains: 10^16 either way
abbrev pub limit : ℕ
limit = 10000000000000000

-- the numbers of accounts lie below 2^32
abbrev pub numbers : ℕ
numbers = 4294967296

-- an account's bounds are within the widest ones, and its balance is between them
pub record Sound (a : Account) : Type 0 where
  pub numbered : a.number < numbers
  pub lowest : neg_ℤ (pos limit) ≤ℤ a.lower
  pub above : a.lower ≤ℤ a.balance
  pub under : a.balance ≤ℤ a.upper
  pub highest : a.upper ≤ℤ pos limit

-- sound accounts, in strictly ascending order from `least`
abbrev pub From : ℕ → List Account → Type 0
From least [] = Unit {0}
From least (a ∷ rest) = (least ≤ a.number) × Sound a × From (suc a.number) rest

-- the laws of a ledger
abbrev pub Lawful : List Account → Type 0
Lawful m = From 0 m

-- the account that is open under a number
abbrev pub find : List Account → ℕ → Option Account
find [] n = None
find (a ∷ rest) n = cond (a.number == n) (Some a) (find rest n)

-- the balance under a number
abbrev pub balance_of : List Account → ℕ → Option ℤ
balance_of m n = option_map (λ a. a.balance) (find m n)

-- a record of zeros
abbrev pub blank : Account
blank = record { number = 0; balance = pos 0; lower = pos 0; upper = pos 0 }

-- the number at a place, from 1
abbrev pub number_at : List Account → ℕ → Option ℕ
number_at m place = cond (nat_lt 0 place && nat_le place (length m)) (Some (slice_index_or m (place - 1) blank).number) None

-- whether a balance is between an account's bounds, both allowed
abbrev pub within : Account → ℤ → Bool
within a z = int_le a.lower z && int_le z a.upper

-- the account with an amount added to its balance
abbrev pub moved : Account → ℤ → Account
moved a amount = record { number = a.number; balance = a.balance +ℤ amount; lower = a.lower; upper = a.upper }

-- the balance with an amount added, where it is within the bounds
abbrev pub raised : Account → ℤ → Option ℤ
raised a amount = cond (within a (a.balance +ℤ amount)) (Some (a.balance +ℤ amount)) None

-- the answer to a posting for the account that is open under n, if one is
abbrev pub answer_at : Option Account → ℕ → ℤ → Result (Unit {0}) PostRefused
answer_at None n amount = Err (NotOpen n)
answer_at (Some a) n amount = cond (within a (a.balance +ℤ amount)) (Ok tt) (Err (OutOfBounds n))

-- the answer to a posting
abbrev pub answer : List Account → ℕ → ℤ → Result (Unit {0}) PostRefused
answer m n amount = answer_at (find m n) n amount

-- the list with the amount added to the balance of one account
abbrev pub posted : List Account → ℕ → ℤ → List Account
posted [] n amount = []
posted (a ∷ rest) n amount = cond (a.number == n) (moved a amount ∷ rest) (a ∷ posted rest n amount)

-- the first where the answer is Ok, the second where it is a refusal, of any type
abbrev pub if_taken : {E X : Type 0} → Result (Unit {0}) E → X → X → X
if_taken (Ok _) x y = x
if_taken (Err _) x y = y

-- what a posting leaves: a refused one leaves all as it was
abbrev pub after : List Account → ℕ → ℤ → List Account
after m n amount = if_taken (answer m n amount) (posted m n amount) m

-- the sum of all balances
abbrev pub total : List Account → ℤ
total [] = pos 0
total (a ∷ rest) = a.balance +ℤ total rest
