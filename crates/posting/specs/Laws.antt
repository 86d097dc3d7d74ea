-- All or none, in words: when all are taken, what the first refusal is, and what becomes of the sum of balances.
use Rattle.std.specs.Prelude.{◌≡◌, ℕ, List, ◌∷◌, ◌++◌, ◌+ℤ◌, Ok, Err, Option, Result}
use Rattle.ledger.specs.declared.account.Account.{Account}
use Rattle.ledger.specs.declared.refusal.PostRefused.{PostRefused}
use Rattle.ledger.specs.Model.{Lawful, answer, total}
use Rattle.posting.specs.declared.posting.Posting.{Posting}
use Rattle.posting.specs.Postings.{listed, posted_all, answers, AllTaken, undone, amounts}

-- one posting is refused, and those before it are taken
pub record Stopped (m : List Account) (ps : List Posting) (e : PostRefused) : Type 0 where
  pub before : List Posting
  pub here : Posting
  pub rest : List Posting
  pub split : ps ≡ before ++ here ∷ rest
  pub taken : AllTaken m before
  pub refused : answer (posted_all m before) here.account here.amount ≡ Err e

-- what the answer to all the postings says
abbrev pub Tells : List Account → List Posting → Result (Unit {0}) PostRefused → Type 0
Tells m ps (Ok _) = AllTaken m ps
Tells m ps (Err e) = Stopped m ps e

-- the answer is Ok exactly when all are taken, and else the refusal of the first that is not
abbrev pub Foremost : Type 0
Foremost = (m : List Account) (ps : List Posting) (r : Result (Unit {0}) PostRefused) → (Tells m ps r → r ≡ answers m ps) × (r ≡ answers m ps → Tells m ps r)

-- postings that are taken move the sum of all balances by the sum of their amounts
abbrev pub MovesByAmounts : Type 0
MovesByAmounts = (m : List Account) (ps : List Posting) → AllTaken m ps → total (posted_all m ps) ≡ total m +ℤ amounts ps

-- and taken back, last first, they leave all as it was
abbrev pub UndoneAll : Type 0
UndoneAll = (m : List Account) (f : ℕ → Option Posting) (n : ℕ) → Lawful m → AllTaken m (listed f n) → undone (posted_all m (listed f n)) f n ≡ m

-- the sum of all balances moves by the sum of the amounts, or not at all
abbrev pub Summed : Result (Unit {0}) PostRefused → List Posting → List Account → List Account → Type 0
Summed (Ok _) ps m m' = total m' ≡ total m +ℤ amounts ps
Summed (Err _) ps m m' = total m' ≡ total m
