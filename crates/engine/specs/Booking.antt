-- Booking a remainder, and the worth of what is still open.
use Rattle.std.specs.Prelude.{◌≡◌, cond, ◌||◌, List, [], ◌∷◌, ℤ, pos, ◌+ℤ◌, Ok, Err, Result}
use Rattle.std.specs.Result.{result_and}
use Rattle.ledger.specs.declared.account.Account.{Account}
use Rattle.ledger.specs.declared.refusal.PostRefused.{PostRefused}
use Rattle.ledger.specs.Model.{answer, posted, total}
use Rattle.posting.specs.declared.posting.Posting.{Posting}
use Rattle.market.specs.declared.records.Interval.{Interval}
use Rattle.entries.specs.Amounts.{worth, booking}
use Rattle.engine.specs.declared.day.Day.{Day}
use Rattle.engine.specs.declared.refusal.Refusal.{Refusal}
use Rattle.engine.specs.declared.refusal.Refusal.TheVariants.{Posting as Unposted}
use Rattle.engine.specs.declared.remainder.Remainder.{Remainder}
use Rattle.engine.specs.declared.remainder.Returned.{Returned}
use Rattle.engine.specs.Days.{records, conditions_in, conditions_of}
use Rattle.engine.specs.Marks.{is_out, is_noted, note_answer}

-- what booking a remainder of the interval i posts: minus its worth, to the account for balancing
abbrev pub booked : Day → ℤ → ℤ → Posting
booked d i steps = booking (conditions_of d i) steps

-- 20, 21: the refusal of a posting, as one of the call's
abbrev pub posting_answer : Result (Unit {0}) PostRefused → Result Unit Refusal
posting_answer (Ok _) = Ok tt
posting_answer (Err e) = Err (Unposted e)

-- 22, and then 20 or 21: what booking a remainder of so many steps answers
abbrev pub book_answer : Day → ℤ → ℤ → List Account → Result Unit Refusal
book_answer d i steps m = result_and (note_answer d i steps) (posting_answer (answer m (booked d i steps).account (booked d i steps).amount))

-- the accounts with a remainder booked
abbrev pub book_accounts : Day → ℤ → ℤ → List Account → List Account
book_accounts d i steps m = posted m (booked d i steps).account (booked d i steps).amount

-- Booked, the sum of all balances moves by minus the worth of the remainder; refused, not at all.
abbrev pub MovesByBooking : Day → Remainder → Result Unit Returned → List Account → List Account → Type 0
MovesByBooking d t (Ok _) m m' = total m' ≡ total m +ℤ (booked d t.interval t.steps).amount
MovesByBooking d t (Err _) m m' = total m' ≡ total m

-- the worth of a record's remainder while it is out or noted
abbrev pub open_part : ℤ → Interval → ℤ
open_part minutes x = cond (is_out x.mark || is_noted x.mark) (worth (conditions_in minutes x) x.remainder) (pos 0)

-- those of a list of records added up
abbrev pub open_sum : ℤ → List Interval → ℤ
open_sum minutes [] = pos 0
open_sum minutes (x ∷ xs) = open_part minutes x +ℤ open_sum minutes xs

-- the worths of the remainders of a day that are out or noted
abbrev pub open_worth : Day → ℤ
open_worth d = open_sum d.minutes (records d)
