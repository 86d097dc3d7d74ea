-- Voiding an interval: its checks, its answer, and what it leaves.
use Rattle.std.specs.Prelude.{ℕ, zero, suc, ◌+◌, ◌-◌, ◌≤◌, cond, List, [], ◌∷◌, length, ℤ, pos, Ok, Option, Result, int_le, nat_lt, slice_index_or}
use Rattle.std.specs.Result.{result_and}
use Rattle.market.specs.declared.records.Order.{Order}
use Rattle.market.specs.declared.records.Block.{Block}
use Rattle.market.specs.declared.records.Book.{Book}
use Rattle.market.specs.declared.refusal.Refusal.{Refusal}
use Rattle.market.specs.declared.refusal.Refusal.TheVariants.{NoInterval, Short, OverQuantity}
use Rattle.market.specs.Blank.{no_order, no_block}
use Rattle.market.specs.Bounds.{in_day}
use Rattle.market.specs.First.{tests}
use Rattle.market.specs.Kinds.{orders, blocks}
use Rattle.verdict.specs.Verdict.{book_checks}
use Rattle.ledger.specs.declared.account.Account.{Account}
use Rattle.ledger.specs.Model.{if_taken}
use Rattle.posting.specs.declared.posting.Posting.{Posting}
use Rattle.posting.specs.Postings.{answers, left}
use Rattle.entries.specs.declared.refused.SettleRefused.{SettleRefused}
use Rattle.entries.specs.declared.terms.Terms.{Terms}
use Rattle.entries.specs.declared.undo.Undo.{Undo}
use Rattle.entries.specs.Amounts.{Conditions, conditions, settle_slot, void_postings}
use Rattle.entries.specs.Sheet.{Laid, sheet_number, sheet_numbers, sheet_without}
use Rattle.entries.specs.Settles.{sheet_ok, if_posted, checked}

-- what is voided: the entries of a book, an interval of a day of so many, its conditions, and the remainder that was booked
pub record Reversal : Type 0 where
  pub orders : List Order
  pub blocks : List Block
  pub intervals : ℕ
  pub interval : ℕ
  pub by : Conditions
  pub steps : ℤ

-- what is voided of a book by these terms, after this remainder
abbrev pub reversal : Book → ℕ → ℕ → Terms → ℤ → Reversal
reversal b n i t steps = record { orders = b.orders.now; blocks = b.blocks.now; intervals = n; interval = i; by = conditions t; steps = steps }

-- the same, of an undo
abbrev pub reversal_of : Undo → Reversal
reversal_of u = reversal u.delivery.book u.delivery.intervals u.delivery.interval u.delivery.terms u.remainder

-- ---- the checks

-- the quantity in steps of the entry at a place, from 0: the orders, then the blocks
abbrev pub quantity_at : List Order → List Block → ℕ → ℤ
quantity_at os bs k = cond (nat_lt k (length os)) (orders.quantity (slice_index_or os k no_order)) (blocks.quantity (slice_index_or bs (k - length os) no_block))

-- 13: the number that the sheet has for the entry at k is above its quantity
abbrev pub number_rule : Reversal → List ℕ → ℕ → Result Unit Refusal
number_rule x s k = tests ((int_le (pos (sheet_number x.orders x.blocks x.intervals x.interval s k)) (quantity_at x.orders x.blocks k), OverQuantity (k + 1)) ∷ [])

-- the first refusal at m places from k on
abbrev pub first_from : (ℕ → Result Unit Refusal) → ℕ → ℕ → Result Unit Refusal
first_from check k zero = Ok tt
first_from check k (suc m) = result_and (check k) (first_from check (k + 1) m)

-- 3, 11, 12, 13: what is looked at before an interval is voided
unfoldable pub void_checks : Reversal → List ℕ → Result Unit Refusal
void_checks x s =
    result_and (tests ((in_day x.intervals (pos x.interval), NoInterval) ∷ (sheet_ok (length x.orders) (length x.blocks) x.intervals (length s), Short) ∷ []))
    (result_and (book_checks x.intervals x.orders x.blocks) (first_from (number_rule x s) 0 (length x.orders + length x.blocks)))

-- what the checks come to, where they pass, for a sheet of that size
pub record Voidable (x : Reversal) (size : ℕ) : Type 0 where
  pub few : length x.orders + length x.blocks ≤ 1088
  pub laid : Laid (length x.orders) (length x.blocks) x.intervals x.interval size

-- ---- what voiding does

-- what settling posted at a place, by the interval's numbers in the sheet
abbrev pub settled_slot : Reversal → List ℕ → ℕ → Option Posting
settled_slot x s = settle_slot x.orders x.blocks (sheet_numbers x.orders x.blocks x.intervals x.interval s) x.by

-- the postings that void the interval by its numbers in the sheet and its remainder
unfoldable pub void_list : Reversal → List ℕ → List Posting
void_list x s = void_postings x.orders x.blocks (sheet_numbers x.orders x.blocks x.intervals x.interval s) x.by x.steps

-- the sheet with the interval's numbers zeroed
unfoldable pub void_sheet : Reversal → List ℕ → List ℕ
void_sheet x s = sheet_without x.orders x.blocks x.intervals x.interval s

-- what voiding answers: the foremost refusal, or nothing to hand over
abbrev pub void_answer : Reversal → List ℕ → List Account → Result Unit SettleRefused
void_answer x s m = checked (void_checks x s) (if_posted (answers m (void_list x s)) tt)

-- the accounts that voiding leaves: with all postings, or as they were
abbrev pub voided_accounts : Reversal → List ℕ → List Account → List Account
voided_accounts x s m = if_taken (void_checks x s) (left m (void_list x s)) m

-- the sheet that voiding leaves: with the interval's numbers zeroed, or as it was
abbrev pub voided_sheet : Reversal → List ℕ → List Account → List ℕ
voided_sheet x s m = if_taken (void_checks x s) (if_taken (answers m (void_list x s)) (void_sheet x s) s) s
