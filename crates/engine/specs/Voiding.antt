-- Voiding an interval on a passed book: what it answers.
use Rattle.std.specs.Prelude.{ℕ, List, take, ℤ, Result, unsigned_abs}
use Rattle.std.specs.Result.{result_and}
use Rattle.ledger.specs.declared.account.Account.{Account}
use Rattle.market.specs.declared.records.Order.{Order}
use Rattle.market.specs.declared.records.Block.{Block}
use Rattle.market.specs.declared.records.Mark.TheVariants.{Closed}
use Rattle.entries.specs.Voids.{Reversal, void_answer as slices_answer}
use Rattle.engine.specs.declared.day.Day.{Day}
use Rattle.engine.specs.declared.book.Passed.{Passed}
use Rattle.engine.specs.declared.refusal.Refusal.{Refusal}
use Rattle.engine.specs.declared.refusal.Refusal.TheVariants.{NotClosed}
use Rattle.engine.specs.Days.{record_of, conditions_of}
use Rattle.engine.specs.Settling.{usable, lifted}

-- 3, 24, 11: what is looked at before the book
abbrev pub voidable : Passed → Day → List Order → List Block → ℤ → Result Unit Refusal
voidable p d os bs i = usable p d os bs i Closed NotClosed

module _ (p : Passed) (d : Day) (os : List Order) (bs : List Block) (i : ℤ) where
  -- what is voided: the book's own records, by the terms of the interval and the remainder that was booked
  abbrev pub taken_back : Reversal
  taken_back = record {
    orders = take p.counts.orders os;
    blocks = take p.counts.blocks bs;
    intervals = d.count;
    interval = unsigned_abs i;
    by = conditions_of d i;
    steps = (record_of d i).remainder;
  }

  -- what voiding answers: the foremost refusal, or nothing to hand over
  abbrev pub void_answer : List ℕ → List Account → Result Unit Refusal
  void_answer s m = result_and (voidable p d os bs i) (lifted (slices_answer taken_back s m))
