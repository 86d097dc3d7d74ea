-- Settling an interval on a passed book: what it answers.
use Rattle.std.specs.Prelude.{◌≡◌, ℕ, List, [], ◌∷◌, take, ℤ, ◌+ℤ◌, Ok, Err, Result, unsigned_abs}
use Rattle.ledger.specs.declared.account.Account.{Account}
use Rattle.ledger.specs.Model.{total}
use Rattle.market.specs.declared.records.Order.{Order}
use Rattle.market.specs.declared.records.Block.{Block}
use Rattle.market.specs.declared.records.Mark.{Mark}
use Rattle.market.specs.declared.records.Mark.TheVariants.{Unsettled}
use Rattle.market.specs.declared.refusal.Refusal.TheVariants.{NoInterval, Short}
use Rattle.market.specs.Bounds.{in_day}
use Rattle.entries.specs.declared.refused.SettleRefused.{SettleRefused}
use Rattle.entries.specs.declared.refused.SettleRefused.TheVariants.{Market as Unlawful, Posting as Unposted}
use Rattle.entries.specs.Amounts.{worth}
use Rattle.entries.specs.Settles.{Settlement, Lengths, settle_answer as slices_answer}
use Rattle.engine.specs.declared.day.Day.{Day}
use Rattle.engine.specs.declared.book.Passed.{Passed}
use Rattle.engine.specs.declared.refusal.Refusal.{Refusal}
use Rattle.engine.specs.declared.refusal.Refusal.TheVariants.{Market, Posting as UnpostedCall, NotUnsettled}
use Rattle.engine.specs.declared.remainder.Remainder.{Remainder}
use Rattle.engine.specs.Books.{holds}
use Rattle.engine.specs.Days.{record_of, conditions_of}
use Rattle.market.specs.First.{tests}
use Rattle.std.specs.Result.{result_and}
use Rattle.engine.specs.Marks.{same_mark}

-- a refusal of settling over slices, as one of the call's
abbrev pub lifted_by : SettleRefused → Refusal
lifted_by (Unlawful e) = Market e
lifted_by (Unposted e) = UnpostedCall e

-- an answer of settling over slices, as one of the call's
abbrev pub lifted : {X : Type 0} → Result X SettleRefused → Result X Refusal
lifted (Ok x) = Ok x
lifted (Err e) = Err (lifted_by e)

-- 3, the refusal of an interval without the mark, 11: what is looked at before the book
abbrev pub usable : Passed → Day → List Order → List Block → ℤ → Mark → Refusal → Result Unit Refusal
usable p d os bs i m refusal = tests ((in_day d.count i, Market NoInterval) ∷ (same_mark m (record_of d i).mark, refusal) ∷ (holds p.counts os bs, Market Short) ∷ [])

-- 3, 19, 11: of settling
abbrev pub ready : Passed → Day → List Order → List Block → ℤ → Result Unit Refusal
ready p d os bs i = usable p d os bs i Unsettled NotUnsettled

module _ (p : Passed) (d : Day) (os : List Order) (fs : List ℕ) (bs : List Block) (gs : List ℕ) (i : ℤ) where
  -- what is settled: the book's own records, by the terms of the interval
  abbrev pub asked : Settlement
  asked = record {
    orders = take p.counts.orders os;
    order_fills = fs;
    blocks = take p.counts.blocks bs;
    block_fills = gs;
    intervals = d.count;
    interval = unsigned_abs i;
    by = conditions_of d i;
  }

  -- what settling answers: the foremost refusal, or the remainder
  abbrev pub settle_answer : Lengths → List Account → Result ℤ Refusal
  settle_answer l m = result_and (ready p d os bs i) (lifted (slices_answer asked l m))

-- the sum of all balances moves by the worth of the remainder of the interval i, or not at all
abbrev pub Moves : Day → ℤ → Result Remainder Refusal → List Account → List Account → Type 0
Moves d i (Ok t) m m' = total m' ≡ total m +ℤ worth (conditions_of d i) t.steps
Moves d i (Err e) m m' = total m' ≡ total m
