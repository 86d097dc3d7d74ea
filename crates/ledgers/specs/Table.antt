-- The table ledger's accounts: the longest lawful leading run within its first 500 records.
use Rattle.std.specs.Prelude.{◌≡◌, ℕ, suc, ◌<◌, Bool, cond, ◌&&◌, List, [], ◌∷◌, length, take, drop, ℤ, pos, neg_ℤ, Ok, Err, Result, ◌==◌, ◌≢◌, int_le, nat_le, nat_lt, slice_index_or}
use Rattle.ledger.specs.declared.account.Account.{Account}
use Rattle.ledger.specs.Model.{limit, numbers, blank}
use Rattle.ledgers.specs.declared.refusal.TableRefused.{TableRefused}
use Rattle.ledgers.specs.declared.refusal.TableRefused.TheVariants.{OutsideRun}

-- the most accounts that a table has
abbrev pub most : ℕ
most = 500

-- low, middle and high are in this order
abbrev pub ascend : ℤ → ℤ → ℤ → Bool
ascend low middle high = int_le low middle && int_le middle high

-- a record that can follow those with numbers below `least`: lawful bounds, the balance between them
abbrev pub lawful_from : ℕ → Account → Bool
lawful_from least a = nat_le least a.number && (nat_lt a.number numbers && (ascend (neg_ℤ (pos limit)) a.lower a.balance && ascend a.balance a.upper (pos limit)))

-- the longest leading run of such records
abbrev pub run : ℕ → List Account → List Account
run least [] = []
run least (a ∷ rest) = cond (lawful_from least a) (a ∷ run (suc a.number) rest) []

-- the table's accounts
abbrev pub table_model : List Account → List Account
table_model records = run 0 (take most records)

-- how many records are accounts
abbrev pub open_records : List Account → ℕ
open_records records = length (table_model records)

-- the records beyond the run
abbrev pub beyond : List Account → List Account
beyond records = drop (open_records records) records

-- the same records are accounts, and those beyond them are as they were
abbrev pub TableKept : List Account → List Account → Type 0
TableKept rs ss = (open_records rs ≡ open_records ss) × (beyond rs ≡ beyond ss)

-- the check: refused at the first record outside the run, by its place from 1
abbrev pub checked : List Account → Result (Unit {0}) TableRefused
checked records = cond (open_records records == length records) (Ok tt) (Err (OutsideRun (suc (open_records records))))

-- no record has the number
abbrev pub Absent : List Account → ℕ → Type 0
Absent xs n = (k : ℕ) → k < length xs → (slice_index_or xs k blank).number ≢ n

-- the first record with the number is at place i, from 0
pub record FirstAt (xs : List Account) (n i : ℕ) : Type 0 where
  pub inside : i < length xs
  pub here : (slice_index_or xs i blank).number ≡ n
  pub before : (k : ℕ) → k < i → (slice_index_or xs k blank).number ≢ n
