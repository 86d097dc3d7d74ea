-- What the table and the joined ledger mean, in words.
use Rattle.std.specs.Prelude.{◌≡◌, ℕ, suc, ◌-◌, ◌≤◌, cond, List, length, get_or, take, ℤ, ◌+ℤ◌, Ok, Err, Result, ◌≢◌, nat_lt, slice_index_or}
use Rattle.ledger.specs.declared.account.Account.{Account}
use Rattle.ledger.specs.Model.{Lawful, find, after, total, blank}
use Rattle.ledgers.specs.declared.refusal.TableRefused.{TableRefused}
use Rattle.ledgers.specs.declared.refusal.TableRefused.TheVariants.{OutsideRun}
use Rattle.ledgers.specs.Table.{most, table_model, open_records, TableKept, checked}
use Rattle.ledgers.specs.Join.{below, from_on, join}

-- a table's accounts are a leading run of its first 500 records
abbrev pub RunLeads : Type 0
RunLeads = (rs : List Account) → (table_model rs ≡ take (open_records rs) rs) × (open_records rs ≤ most)

-- and the longest that is lawful
abbrev pub RunLongest : Type 0
RunLongest = (rs : List Account) (n : ℕ) → n ≤ most → n ≤ length rs → Lawful (take n rs) → n ≤ open_records rs

-- the record at place k, from 1, is the first outside the run
pub record Outside (rs : List Account) (k : ℕ) : Type 0 where
  pub from_one : 1 ≤ k
  pub inside : k ≤ length rs
  pub few : k ≤ suc most
  pub before : Lawful (take (k - 1) rs)
  pub ends : k ≤ most → Lawful (take k rs) → ⊥

-- what each answer of the check says
abbrev pub Says : List Account → Result (Unit {0}) TableRefused → Type 0
Says rs (Ok _) = (length rs ≤ most) × Lawful rs
Says rs (Err (OutsideRun k)) = Outside rs k

-- each is given exactly when what it says holds
abbrev pub ChecksExactly : Type 0
ChecksExactly = (rs : List Account) (r : Result (Unit {0}) TableRefused) → (Says rs r → r ≡ checked rs) × (r ≡ checked rs → Says rs r)

-- records before and after: numbers and bounds stay, and every record but that of n
pub record OnlyBalance (n : ℕ) (rs ss : List Account) : Type 0 where
  pub long : length ss ≡ length rs
  pub numbers : (k : ℕ) → (get_or ss k blank).number ≡ (get_or rs k blank).number
  pub lowers : (k : ℕ) → (get_or ss k blank).lower ≡ (get_or rs k blank).lower
  pub uppers : (k : ℕ) → (get_or ss k blank).upper ≡ (get_or rs k blank).upper
  pub others : (k : ℕ) → ((get_or rs k blank).number ≢ n) → slice_index_or ss k blank ≡ slice_index_or rs k blank

-- the records that are no accounts stay
abbrev pub IdleStay : List Account → List Account → Type 0
IdleStay rs ss = (k : ℕ) → open_records rs ≤ k → slice_index_or ss k blank ≡ slice_index_or rs k blank

-- what a posting to a table leaves of the records
abbrev pub PostsOnly : Type 0
PostsOnly = (rs ss : List Account) (n : ℕ) (x : ℤ) → table_model ss ≡ after (table_model rs) n x → TableKept rs ss → OnlyBalance n rs ss × IdleStay rs ss

-- a table whose accounts are as they were has its records as they were
abbrev pub RecordsStay : Type 0
RecordsStay = (rs ss : List Account) → table_model ss ≡ table_model rs → TableKept rs ss → ss ≡ rs

-- the account under a number is the first's below the border, the second's from there on
abbrev pub JoinFinds : Type 0
JoinFinds = (b : ℕ) (m k : List Account) (n : ℕ) → Lawful m → Lawful k → find (join b m k) n ≡ cond (nat_lt n b) (find m n) (find k n)

-- the sum of a joined ledger's balances
abbrev pub JoinSums : Type 0
JoinSums = (b : ℕ) (m k : List Account) → total (join b m k) ≡ total (below b m) +ℤ total (from_on b k)

-- joined accounts as they were, and those on the wrong side too: both ledgers' accounts are as they were
abbrev pub HalvesStay : Type 0
HalvesStay = (b : ℕ) (m m' k k' : List Account) → join b m' k' ≡ join b m k → from_on b m ≡ from_on b m' → below b k ≡ below b k' → (m' ≡ m) × (k' ≡ k)
