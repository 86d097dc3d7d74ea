-- The laws of posting, over every model of a ledger.
use Rattle.std.specs.Prelude.{◌≡◌, ℕ, List, ℤ, ◌+ℤ◌, neg_ℤ, ◌≤ℤ◌, Some, None, Ok, Err, Result, ◌≢◌}
use Rattle.ledger.specs.declared.account.Account.{Account}
use Rattle.ledger.specs.declared.refusal.PostRefused.{PostRefused}
use Rattle.ledger.specs.declared.refusal.PostRefused.TheVariants.{NotOpen, OutOfBounds}
use Rattle.ledger.specs.Model.{Lawful, find, answer, after, total}

-- a balance between the bounds of an account, both allowed
abbrev pub Between : Account → ℤ → Type 0
Between a z = (a.lower ≤ℤ z) × (z ≤ℤ a.upper)

-- the account is open, and the new balance is between its bounds
pub record Taken (m : List Account) (n : ℕ) (x : ℤ) : Type 0 where
  pub account : Account
  pub opened : find m n ≡ Some account
  pub between : Between account (account.balance +ℤ x)

-- the account is not open
pub record Closed (m : List Account) (n k : ℕ) : Type 0 where
  pub same : k ≡ n
  pub absent : find m n ≡ None

-- the account is open, and the new balance would not be between its bounds
pub record Beyond (m : List Account) (n : ℕ) (x : ℤ) (k : ℕ) : Type 0 where
  pub same : k ≡ n
  pub account : Account
  pub opened : find m n ≡ Some account
  pub outside : Between account (account.balance +ℤ x) → ⊥

-- what each answer to a posting of x to n says
abbrev pub Says : List Account → ℕ → ℤ → Result (Unit {0}) PostRefused → Type 0
Says m n x (Ok _) = Taken m n x
Says m n x (Err (NotOpen k)) = Closed m n k
Says m n x (Err (OutOfBounds k)) = Beyond m n x k

-- each answer is given exactly when what it says holds
abbrev pub AnswersExactly : Type 0
AnswersExactly = (m : List Account) (n : ℕ) (x : ℤ) (r : Result (Unit {0}) PostRefused) → (Says m n x r → r ≡ answer m n x) × (r ≡ answer m n x → Says m n x r)

-- the laws of a ledger hold after every posting
abbrev pub StaysLawful : Type 0
StaysLawful = (m : List Account) (n : ℕ) (x : ℤ) → Lawful m → Lawful (after m n x)

-- a refused posting leaves all as it was
abbrev pub RefusedUnmoved : Type 0
RefusedUnmoved = (m : List Account) (n : ℕ) (x : ℤ) (e : PostRefused) → answer m n x ≡ Err e → after m n x ≡ m

-- a posting leaves every other account as it was
abbrev pub OthersStay : Type 0
OthersStay = (m : List Account) (n : ℕ) (x : ℤ) (k : ℕ) → (k ≢ n) → find (after m n x) k ≡ find m k

-- a posting that is taken moves the sum of all balances by its amount
abbrev pub MovesTotal : Type 0
MovesTotal = (m : List Account) (n : ℕ) (x : ℤ) → answer m n x ≡ Ok tt → total (after m n x) ≡ total m +ℤ x

-- posted back it is taken, and all is as it was
abbrev pub ComesBack : Type 0
ComesBack = (m : List Account) (n : ℕ) (x : ℤ) → Lawful m → answer m n x ≡ Ok tt → (answer (after m n x) n (neg_ℤ x) ≡ Ok tt) × (after (after m n x) n (neg_ℤ x) ≡ m)
