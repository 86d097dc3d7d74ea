-- Settling an interval: its checks, its answer, and what it leaves.
use Rattle.std.specs.Prelude.{◌≡◌, ℕ, ◌+◌, ◌*◌, ◌≤◌, Bool, ◌&&◌, List, [], ◌∷◌, length, ℤ, pos, ◌+ℤ◌, Ok, Err, Result, nat_le, slice_index}
use Rattle.market.specs.declared.records.Order.{Order}
use Rattle.market.specs.declared.records.Block.{Block}
use Rattle.market.specs.declared.records.Book.{Book}
use Rattle.market.specs.declared.records.Fills.{Fills}
use Rattle.market.specs.declared.refusal.Refusal.{Refusal}
use Rattle.market.specs.declared.refusal.Refusal.TheVariants.{NoInterval, Short}
use Rattle.market.specs.Bounds.{in_day, sizes_ok}
use Rattle.market.specs.First.{tests}
use Rattle.std.specs.Result.{result_and}
use Rattle.verdict.specs.Verdict.{paper_checks}
use Rattle.cuts.specs.Settled.{settled_numbers, remainder_of, SameLists}
use Rattle.ledger.specs.declared.account.Account.{Account}
use Rattle.ledger.specs.declared.refusal.PostRefused.{PostRefused}
use Rattle.ledger.specs.Model.{total, if_taken}
use Rattle.posting.specs.declared.posting.Posting.{Posting}
use Rattle.posting.specs.Postings.{answers, left}
use Rattle.entries.specs.declared.refused.SettleRefused.{SettleRefused}
use Rattle.entries.specs.declared.refused.SettleRefused.TheVariants.{Market, Posting as Unposted}
use Rattle.entries.specs.declared.task.Task.{Task}
use Rattle.entries.specs.declared.terms.Terms.{Terms}
use Rattle.entries.specs.declared.work.Work.{Work}
use Rattle.entries.specs.Amounts.{Conditions, conditions, worth, settle_postings}
use Rattle.entries.specs.Sheet.{sheet_with, Laid}

-- what is settled: the entries of a book with their fills, an interval of a day of so many, and its conditions
pub record Settlement : Type 0 where
  pub orders : List Order
  pub order_fills : List ℕ
  pub blocks : List Block
  pub block_fills : List ℕ
  pub intervals : ℕ
  pub interval : ℕ
  pub by : Conditions

-- what is settled of a book with its fills by these terms
abbrev pub settlement : Book → Fills → ℕ → ℕ → Terms → Settlement
settlement b f n i t = record { orders = b.orders.now; order_fills = f.orders.now; blocks = b.blocks.now; block_fills = f.blocks.now; intervals = n; interval = i; by = conditions t }

-- the same, of a task
abbrev pub settlement_of : Task → Settlement
settlement_of t = settlement t.delivery.book t.fills t.delivery.intervals t.delivery.interval t.delivery.terms

-- the lengths of the working slices
pub record WorkLengths : Type 0 where
  pub numbers : ℕ
  pub orders : ℕ
  pub blocks : ℕ

-- the lengths of the memory that settling writes: the sheet and the working slices
pub record Lengths : Type 0 where
  pub sheet : ℕ
  pub work : WorkLengths

-- those of working slices
abbrev pub work_lengths : Work → WorkLengths
work_lengths w = record { numbers = length w.numbers.now; orders = length w.lists.orders.now; blocks = length w.lists.blocks.now }

-- those of a sheet and of working slices
abbrev pub lengths : List ℕ → Work → Lengths
lengths s w = record { sheet = length s; work = work_lengths w }

-- the same slices, whatever they hold
pub record SameSlices (w w' : Work) : Type 0 where
  pub numbers : w'.numbers.ghost_name ≡ w.numbers.ghost_name
  pub lists : SameLists w.lists w'.lists
  pub lengths : work_lengths w' ≡ work_lengths w

-- ---- the checks

-- working slices of these lengths, for that many entries
abbrev pub work_ok : ℕ → WorkLengths → Bool
work_ok entries w = nat_le entries w.numbers && (nat_le entries w.orders && nat_le entries w.blocks)

-- a sheet of that size, for o orders and b blocks in a day of n intervals
abbrev pub sheet_ok : ℕ → ℕ → ℕ → ℕ → Bool
sheet_ok o b n size = sizes_ok n o b && nat_le (o + b * n) size

-- a sheet and working slices of these lengths, for as many
abbrev pub room_ok : ℕ → ℕ → ℕ → Lengths → Bool
room_ok o b n l = sheet_ok o b n l.sheet && work_ok (o + b) l.work

-- 3, 11, 12, 13: what is looked at before an interval is settled
unfoldable pub settle_checks : Settlement → Lengths → Result Unit Refusal
settle_checks x l =
    result_and (tests ((in_day x.intervals (pos x.interval), NoInterval) ∷ (room_ok (length x.orders) (length x.blocks) x.intervals l, Short) ∷ []))
    (paper_checks x.intervals x.orders x.order_fills x.blocks x.block_fills)

-- a book with lawful fills, and working slices of these lengths
pub record SizedFor (x : Settlement) (w : WorkLengths) : Type 0 where
  pub orders : length x.orders ≤ 1024
  pub blocks : length x.blocks ≤ 64
  pub order_fills : length x.order_fills ≡ length x.orders
  pub block_fills : length x.block_fills ≡ length x.blocks
  pub work : length x.orders + length x.blocks ≤ w.numbers
  pub order_room : length x.orders + length x.blocks ≤ w.orders
  pub block_room : length x.orders + length x.blocks ≤ w.blocks
  pub order_small : (k : ℕ) → slice_index x.order_fills k ≤ 1000000
  pub block_small : (k : ℕ) → slice_index x.block_fills k ≤ 1000000

-- what the checks come to, where they pass
pub record Ready (x : Settlement) (l : Lengths) : Type 0 where
  pub sized : SizedFor x l.work
  pub laid : Laid (length x.orders) (length x.blocks) x.intervals x.interval l.sheet

-- ---- what settling does

-- the numbers of the entries, as the cuts settle them
unfoldable pub settle_numbers : Settlement → List ℕ
settle_numbers x = settled_numbers x.orders x.order_fills x.blocks x.block_fills x.interval x.by.rounded

-- the postings of the interval, whose entries are settled by the cuts
unfoldable pub settle_list : Settlement → List Posting
settle_list x = settle_postings x.orders x.blocks (settle_numbers x) x.by

-- settled sells less settled buys less R
unfoldable pub settle_steps : Settlement → ℤ
settle_steps x = remainder_of x.orders x.order_fills x.blocks x.block_fills x.interval x.by.rounded

-- the sheet with the settled numbers of the interval's entries
unfoldable pub settle_sheet : Settlement → List ℕ → List ℕ
settle_sheet x s = sheet_with x.orders x.blocks x.intervals x.interval (settle_numbers x) s

-- what is answered where all postings are taken
abbrev pub if_posted : {X : Type 0} → Result (Unit {0}) PostRefused → X → Result X SettleRefused
if_posted (Ok _) x = Ok x
if_posted (Err e) x = Err (Unposted e)

-- an answer that is given where the checks pass
abbrev pub checked : {X : Type 0} → Result Unit Refusal → Result X SettleRefused → Result X SettleRefused
checked (Ok _) answer = answer
checked (Err e) answer = Err (Market e)

-- what is answered to postings of a settlement whose checks have passed: the remainder, where all are taken
abbrev pub carried_answer : Settlement → List Account → Result ℤ SettleRefused
carried_answer x m = if_posted (answers m (settle_list x)) (settle_steps x)

-- the sheet that such a settlement leaves: written, where all postings are taken
abbrev pub carried_sheet : Settlement → List Account → List ℕ → List ℕ
carried_sheet x m s = if_taken (answers m (settle_list x)) (settle_sheet x s) s

-- what settling answers: the foremost refusal, or the remainder
abbrev pub settle_answer : Settlement → Lengths → List Account → Result ℤ SettleRefused
settle_answer x l m = checked (settle_checks x l) (carried_answer x m)

-- the accounts that settling leaves: with all postings, or as they were
abbrev pub settled_accounts : Settlement → Lengths → List Account → List Account
settled_accounts x l m = if_taken (settle_checks x l) (left m (settle_list x)) m

-- the sheet that settling leaves: with the settled numbers, or as it was
abbrev pub settled_sheet : Settlement → Lengths → List Account → List ℕ → List ℕ
settled_sheet x l m s = if_taken (settle_checks x l) (carried_sheet x m s) s

-- Settled, the sum of all balances has moved by the worth of the remainder; refused, accounts and sheet are as they were.
abbrev pub Moved : Result ℤ SettleRefused → Conditions → List Account → List Account → List ℕ → List ℕ → Type 0
Moved (Ok steps) t m m' s s' = total m' ≡ total m +ℤ worth t steps
Moved (Err _) t m m' s s' = (m' ≡ m) × (s' ≡ s)
