-- Postings in order, all or none.
use Rattle.std.specs.Prelude.{◌≡◌, ℕ, zero, suc, List, [], ◌∷◌, ◌++◌, ℤ, pos, ◌+ℤ◌, neg_ℤ, ◌≤ℤ◌, Some, None, Ok, Option, Result}
use Rattle.std.specs.Result.{result_and}
use Rattle.ledger.specs.declared.account.Account.{Account}
use Rattle.ledger.specs.declared.refusal.PostRefused.{PostRefused}
use Rattle.ledger.specs.Model.{answer, posted, after, if_taken}
use Rattle.posting.specs.declared.posting.Posting.{Posting}

-- a posting, or nothing to post, as a list
abbrev pub one : Option Posting → List Posting
one None = []
one (Some p) = p ∷ []

-- the postings at the first n places
abbrev pub listed : (ℕ → Option Posting) → ℕ → List Posting
listed f zero = []
listed f (suc n) = listed f n ++ one (f n)

-- the accounts with all the amounts added
abbrev pub posted_all : List Account → List Posting → List Account
posted_all m [] = m
posted_all m (p ∷ ps) = posted_all (posted m p.account p.amount) ps

-- the answer to all the postings: the first refusal in their order
abbrev pub answers : List Account → List Posting → Result (Unit {0}) PostRefused
answers m [] = Ok tt
answers m (p ∷ ps) = result_and (answer m p.account p.amount) (answers (posted m p.account p.amount) ps)

-- what they leave: all of them, or none
abbrev pub left : List Account → List Posting → List Account
left m ps = if_taken (answers m ps) (posted_all m ps) m

-- each posting is taken in its turn
abbrev pub AllTaken : List Account → List Posting → Type 0
AllTaken m [] = Unit {0}
AllTaken m (p ∷ ps) = (answer m p.account p.amount ≡ Ok tt) × AllTaken (posted m p.account p.amount) ps

-- what the opposite of a posting leaves
abbrev pub opposed : List Account → Option Posting → List Account
opposed m None = m
opposed m (Some p) = after m p.account (neg_ℤ p.amount)

-- the postings at the first n places taken back, last first
abbrev pub undone : List Account → (ℕ → Option Posting) → ℕ → List Account
undone m f zero = m
undone m f (suc n) = undone (opposed m (f n)) f n

-- an amount that can be negated, as every one is that a ledger has taken
pub record Small (p : Posting) : Type 0 where
  pub low : neg_ℤ (pos 20000000000000000) ≤ℤ p.amount
  pub high : p.amount ≤ℤ pos 20000000000000000

-- the sum of the amounts
abbrev pub amounts : List Posting → ℤ
amounts [] = pos 0
amounts (p ∷ ps) = p.amount +ℤ amounts ps
