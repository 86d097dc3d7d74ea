-- The models of the three ledgers are lawful.
use Rattle.std.specs.Prelude.{◌≡◌, ℕ, suc, ◌≤◌, true, cond, List, [], ◌∷◌, ◌++◌, take, ℤ, nat_lt}
use Rattle.std.proofs.Common.{arith, ltb-true, ltb-false}
use Rattle.std.proofs.lemmas.Int.{ints}
use Rattle.ledger.specs.declared.account.Account.{Account}
use Rattle.ledger.specs.Model.{Sound, From, Lawful}
use Rattle.ledger.proofs.Posting.{by_test}
use Rattle.ledgers.specs.Join.{below, from_on, join}
use Rattle.ledgers.specs.Operator.{operators, InLimit}
use Rattle.ledgers.specs.Table.{most, lawful_from, run, table_model}

pub lawful_parts : (least : ℕ) (a : Account) → lawful_from least a ≡ true → (least ≤ a.number) × Sound a
lawful_parts least a e =
    (grind (arith, ints), record { numbered = grind (arith, ints); lowest = grind (arith, ints); above = grind (arith, ints); under = grind (arith, ints); highest = grind (arith, ints) })

pub run-lawful : (least : ℕ) (xs : List Account) → From least (run least xs)
run-lawful least [] = tt
run-lawful least (a ∷ rest) =
    by_test (lawful_from least a) (λ b. From least (cond b (a ∷ run (suc a.number) rest) []))
    (λ e. let f = lawful_parts least a e in (f.0, f.1, run-lawful (suc a.number) rest))
    (λ _. tt)

pub table_lawful : (rs : List Account) → Lawful (table_model rs)
table_lawful rs = run-lawful 0 (take most rs)

pub operators-lawful : (x y : ℤ) → InLimit x → InLimit y → Lawful (operators x y)
operators-lawful x y (a, b) (c, d) = (
  omega arith,
  record { numbered = omega arith; lowest = omega (arith, ints); above = a; under = b; highest = omega (arith, ints) },
  (omega arith, record { numbered = omega arith; lowest = omega (arith, ints); above = c; under = d; highest = omega (arith, ints) }, tt),
)

pub From-from_on : (b least l : ℕ) (k : List Account) → least ≤ b → From l k → From least (from_on b k)
From-from_on b least l [] h f = tt
From-from_on b least l (a ∷ rest) h (q, s, f) =
    by_test (nat_lt a.number b) (λ t. From least (cond t (from_on b rest) (a ∷ rest)))
    (λ _. From-from_on b least (suc a.number) rest h f)
    (λ e. let le = ltb-false a.number b e in (omega arith, s, f))

pub from_join : (b least l : ℕ) (m k : List Account) → least ≤ b → From least m → From l k → From least (join b m k)
from_join b least l [] k h f g = From-from_on b least l k h g
from_join b least l (a ∷ rest) k h (q, s, f) g =
    by_test (nat_lt a.number b) (λ t. From least (cond t (a ∷ below b rest) [] ++ from_on b k))
    (λ e. let lt = ltb-true a.number b e in (q, s, from_join b (suc a.number) l rest k (omega arith) f g))
    (λ _. From-from_on b least l k h g)

pub join-lawful : (b : ℕ) (m k : List Account) → Lawful m → Lawful k → Lawful (join b m k)
join-lawful b m k f g = from_join b 0 0 m k (omega arith) f g
