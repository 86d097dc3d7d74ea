-- The five calls as steps from one state to the next.
use Rattle.std.specs.Prelude.{◌≡◌, ℕ, List, length, take, ℤ, pos, Ok, Err, Result}
use Rattle.ledger.specs.declared.account.Account.{Account}
use Rattle.posting.specs.Postings.{posted_all}
use Rattle.market.specs.declared.records.Order.{Order}
use Rattle.market.specs.declared.records.Block.{Block}
use Rattle.market.specs.declared.records.Mark.TheVariants.{Unsettled, Out, Noted, Closed}
use Rattle.entries.specs.Settles.{Settlement, WorkLengths, Lengths, settle_list, settle_sheet}
use Rattle.entries.specs.Voids.{Reversal, void_list, void_sheet}
use Rattle.engine.specs.declared.day.Day.{Day}
use Rattle.engine.specs.declared.book.Passed.{Passed}
use Rattle.engine.specs.declared.call.Call.{Call}
use Rattle.engine.specs.declared.call.Call.TheVariants.{Settle, Book, Note, TakeUp, Void}
use Rattle.engine.specs.declared.call.Outcome.{Outcome}
use Rattle.engine.specs.declared.call.Outcome.TheVariants.{Accepted, Refused}
use Rattle.engine.specs.declared.refusal.Refusal.{Refusal}
use Rattle.engine.specs.declared.remainder.Remainder.{Remainder}
use Rattle.engine.specs.declared.remainder.Returned.{Returned}
use Rattle.engine.specs.Days.{Recorded, place_of, record_of, with_state}
use Rattle.engine.specs.Marks.{Marked, note_answer, take_answer}
use Rattle.engine.specs.Booking.{book_answer, book_accounts}
use Rattle.engine.specs.Settling.{asked, settle_answer}
use Rattle.engine.specs.Voiding.{taken_back, void_answer}

-- what stays as it is while the calls run: the passed book, the memory that holds it, and the fills of the paper
pub record Paper : Type 0 where
  pub book : Passed
  pub orders : List Order
  pub order_fills : List ℕ
  pub blocks : List Block
  pub block_fills : List ℕ

-- such a paper
abbrev pub paper_of : Passed → List Order → List ℕ → List Block → List ℕ → Paper
paper_of p os fs bs gs = record { book = p; orders = os; order_fills = fs; blocks = bs; block_fills = gs }

-- the orders of the book
abbrev pub orders_of : Paper → List Order
orders_of p = take p.book.counts.orders p.orders

-- and its blocks
abbrev pub blocks_of : Paper → List Block
blocks_of p = take p.book.counts.blocks p.blocks

-- what the calls change: the day, the sheet, and the accounts of the ledger
pub record State : Type 0 where
  pub day : Day
  pub sheet : List ℕ
  pub ledger : List Account

-- such a state
abbrev pub state_of : Day → List ℕ → List Account → State
state_of d s m = record { day = d; sheet = s; ledger = m }

-- the lengths of a state's sheet and of working slices
abbrev pub lengths_in : WorkLengths → State → Lengths
lengths_in w s = record { sheet = length s.sheet; work = w }

-- what settling the interval i settles
abbrev pub settled_in : Paper → State → ℤ → Settlement
settled_in p s i = asked p.book s.day p.orders p.order_fills p.blocks p.block_fills i

-- what voiding the interval i takes back
abbrev pub voided_in : Paper → State → ℤ → Reversal
voided_in p s i = taken_back p.book s.day p.orders p.blocks i

-- so many steps, where nothing is refused
abbrev pub with_steps : Result Unit Refusal → ℤ → Result ℤ Refusal
with_steps (Ok _) steps = Ok steps
with_steps (Err e) steps = Err e

-- what a call answers: the foremost refusal that applies, or the steps that it hands over, books or notes; 0 for a void
abbrev pub call_answer : Paper → WorkLengths → State → Call → Result ℤ Refusal
call_answer p w s (Settle i) = settle_answer p.book s.day p.orders p.order_fills p.blocks p.block_fills i (lengths_in w s) s.ledger
call_answer p w s (Book i steps) = with_steps (book_answer s.day i steps s.ledger) steps
call_answer p w s (Note i steps) = with_steps (note_answer s.day i steps) steps
call_answer p w s (TakeUp i) = with_steps (take_answer s.day i) (record_of s.day i).remainder
call_answer p w s (Void i) = with_steps (void_answer p.book s.day p.orders p.blocks i s.sheet s.ledger) (pos 0)

-- Settled: the interval is out with the remainder, its settled numbers are in the sheet and its postings in the accounts.
pub record Settles (p : Paper) (i steps : ℤ) (s s' : State) : Type 0 where
  pub day : Recorded s.day (place_of i) (with_state (record_of s.day i) Out steps) s'.day
  pub sheet : s'.sheet ≡ settle_sheet (settled_in p s i) s.sheet
  pub ledger : s'.ledger ≡ posted_all s.ledger (settle_list (settled_in p s i))

-- Booked: the interval is closed, and minus the worth of the remainder is posted.
pub record Books (i steps : ℤ) (s s' : State) : Type 0 where
  pub day : Marked s.day i Closed s'.day
  pub sheet : s'.sheet ≡ s.sheet
  pub ledger : s'.ledger ≡ book_accounts s.day i steps s.ledger

-- Noted: the interval is noted, and nothing else changes.
pub record Notes (i : ℤ) (s s' : State) : Type 0 where
  pub day : Marked s.day i Noted s'.day
  pub sheet : s'.sheet ≡ s.sheet
  pub ledger : s'.ledger ≡ s.ledger

-- Taken up: the interval is out again, and nothing else changes.
pub record TakesUp (i : ℤ) (s s' : State) : Type 0 where
  pub day : Marked s.day i Out s'.day
  pub sheet : s'.sheet ≡ s.sheet
  pub ledger : s'.ledger ≡ s.ledger

-- Voided: the interval is unsettled with remainder 0, its numbers are zeroed, and its postings are taken back.
pub record Voids (p : Paper) (i : ℤ) (s s' : State) : Type 0 where
  pub day : Recorded s.day (place_of i) (with_state (record_of s.day i) Unsettled (pos 0)) s'.day
  pub sheet : s'.sheet ≡ void_sheet (voided_in p s i) s.sheet
  pub ledger : s'.ledger ≡ posted_all s.ledger (void_list (voided_in p s i) s.sheet)

-- what an accepted call leaves
abbrev pub Leaves : Paper → State → Call → ℤ → State → Type 0
Leaves p s (Settle i) z s' = Settles p i z s s'
Leaves p s (Book i steps) z s' = Books i steps s s'
Leaves p s (Note i steps) z s' = Notes i s s'
Leaves p s (TakeUp i) z s' = TakesUp i s s'
Leaves p s (Void i) z s' = Voids p i s s'

-- nothing has changed
pub record Unchanged (s s' : State) : Type 0 where
  pub day : s'.day ≡ s.day
  pub sheet : s'.sheet ≡ s.sheet
  pub ledger : s'.ledger ≡ s.ledger

-- A call, with working slices of these lengths, takes one state to the next: accepted, since no refusal applies, with what it
-- leaves; or refused, with the foremost refusal that applies, and then nothing has changed.
abbrev pub Takes : Paper → WorkLengths → State → Call → Outcome → State → Type 0
Takes p w s c (Accepted z) s' = (call_answer p w s c ≡ Ok z) × Leaves p s c z s'
Takes p w s c (Refused e) s' = (call_answer p w s c ≡ Err e) × Unchanged s s'

-- what came of a call that hands a remainder over
abbrev pub handing : Result Remainder Refusal → Outcome
handing (Ok t) = Accepted t.steps
handing (Err e) = Refused e

-- what came of a call that takes a remainder of so many steps
abbrev pub spending : ℤ → Result Unit Returned → Outcome
spending steps (Ok _) = Accepted steps
spending steps (Err back) = Refused back.refusal

-- a refused call gives the remainder back
abbrev pub GivesBack : Remainder → Result Unit Returned → Type 0
GivesBack t (Ok _) = Unit {0}
GivesBack t (Err back) = back.remainder ≡ t

-- what came of a void
abbrev pub voiding : Result Unit Refusal → Outcome
voiding (Ok _) = Accepted (pos 0)
voiding (Err e) = Refused e
