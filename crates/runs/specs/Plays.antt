-- Judging a paper and carrying out a list of calls: what it answers, and what it leaves.
use Rattle.std.specs.Prelude.{◌≡◌, ℕ, zero, suc, ◌<◌, ◌≤◌, Bool, false, cond, ◌&&◌, List, [], ◌∷◌, ◌++◌, length, drop, ℤ, pos, Some, None, Ok, Err, Option, Result, ◌≢◌, nat_le, slice_index_or}
use Rattle.ledger.specs.declared.account.Account.{Account}
use Rattle.market.specs.declared.records.Order.{Order}
use Rattle.market.specs.declared.records.Block.{Block}
use Rattle.market.specs.Bounds.{in_day}
use Rattle.market.specs.First.{tests}
use Rattle.std.specs.List.{list_all}
use Rattle.std.specs.Result.{result_and}
use Rattle.market.specs.declared.refusal.Refusal.{Refusal as MarketRefusal}
use Rattle.market.specs.declared.refusal.Refusal.TheVariants.{Short}
use Rattle.verdict.specs.Balance.{welfare}
use Rattle.engine.specs.declared.call.Call.{Call}
use Rattle.engine.specs.declared.call.Call.TheVariants.{Settle, Note}
use Rattle.engine.specs.declared.call.Outcome.{Outcome}
use Rattle.engine.specs.declared.call.Outcome.TheVariants.{Accepted}
use Rattle.engine.specs.declared.refusal.Refusal.{Refusal}
use Rattle.engine.specs.declared.refusal.Refusal.TheVariants.{Market, NotUnsettled}
use Rattle.engine.specs.declared.day.Day.{Day}
use Rattle.engine.specs.declared.book.Closed.{Closed}
use Rattle.engine.specs.Days.{records, record_of}
use Rattle.engine.specs.Judging.{judge_answer}
use Rattle.engine.specs.Marks.{is_unsettled, is_out, any_out}
use Rattle.engine.specs.Steps.{Paper, State, paper_of, state_of, orders_of, blocks_of}
use Rattle.runs.specs.declared.play.Played.{Played}
use Rattle.runs.specs.declared.play.Unplayed.{Unplayed}
use Rattle.runs.specs.Runs.{Event, event_of, Run, Law, EveryRunLawful}

-- a call and an outcome of zeros, for places past the end
abbrev pub no_call : Call
no_call = Settle (pos 0)

abbrev pub no_outcome : Outcome
no_outcome = Accepted (pos 0)

-- the first n calls with their outcomes, the newest first
abbrev pub told : List Call → List Outcome → ℕ → List Event
told cs os zero = []
told cs os (suc k) = event_of (slice_index_or cs k no_call) (slice_index_or os k no_outcome) ∷ told cs os k

-- the note of the remainder of the interval i that the day shows
abbrev pub note_of : Day → ℕ → Event
note_of d i = event_of (Note (pos i) (record_of d (pos i)).remainder) (Accepted (record_of d (pos i)).remainder)

-- the same where the interval i is out, and else nothing
abbrev pub note_if_out : Day → ℕ → List Event
note_if_out d i = cond (is_out (record_of d (pos i)).mark) (note_of d i ∷ []) []

-- the notes of those of the first n intervals that are out, the newest first
abbrev pub notes : Day → ℕ → List Event
notes d zero = []
notes d (suc k) = note_if_out d (suc k) ++ notes d k

-- The remainders of the first n intervals that were out on the day d are noted on the day d'.
pub record NotedTo (d : Day) (n : ℕ) (d' : Day) : Type 0 where
  pub run : (p : Paper) (s : List ℕ) (m : List Account) → Run p (state_of d s m) (notes d n) (state_of d' s m)
  pub count : d'.count ≡ d.count
  pub done : (i : ℕ) → 1 ≤ i → i ≤ n → is_out (record_of d' (pos i)).mark ≡ false
  pub left : (i : ℕ) → n < i → record_of d' (pos i) ≡ record_of d (pos i)

-- The remainder of the interval i, if it was out on the day d, is noted on the day d'.
pub record NotedAt (d : Day) (i : ℕ) (d' : Day) : Type 0 where
  pub run : (p : Paper) (s : List ℕ) (m : List Account) → Run p (state_of d s m) (note_if_out d i) (state_of d' s m)
  pub count : d'.count ≡ d.count
  pub done : is_out (record_of d' (pos i)).mark ≡ false
  pub others : (j : ℕ) → 1 ≤ j → (i ≢ j) → record_of d' (pos j) ≡ record_of d (pos j)

-- the remainder of the interval i, where it is out
abbrev pub out_steps : Day → ℤ → Option ℤ
out_steps d i = cond (in_day d.count i && is_out (record_of d i).mark) (Some (record_of d i).remainder) None

-- What the calls cs have made of s₀: their outcomes have replaced the first of the list os, and what was still out is noted.
pub record Plays (p : Paper) (s₀ : State) (cs : List Call) (os os' : List Outcome) (s : State) : Type 0 where
  -- the state after the calls, before the notes
  pub between : State
  -- the calls with their outcomes are a run, and so they are with the notes after them
  pub run : Run p s₀ (told cs os' (length cs)) between
  pub whole : Run p s₀ (notes between.day between.day.count ++ told cs os' (length cs)) s
  -- at its end the paper has the greatest welfare, settled intervals balance where their cuts reach, and the accounts add up
  pub law : Law p s₀ (notes between.day between.day.count ++ told cs os' (length cs)) s
  -- and so they do along every run from s₀
  pub every : EveryRunLawful p s₀
  -- nothing is out any more
  pub none_out : any_out s.day ≡ false
  -- outcomes past the calls are as they were
  pub rest : drop (length cs) os' ≡ drop (length cs) os

-- every interval is unsettled
abbrev pub nothing_settled : Day → Bool
nothing_settled d = list_all (λ x. is_unsettled x.mark) (records d)

-- 19, 11: what is looked at before the paper is judged
abbrev pub playable : Day → ℕ → ℕ → Result Unit Refusal
playable d calls outcomes = tests ((nothing_settled d, NotUnsettled) ∷ (nat_le calls outcomes, Market Short) ∷ [])

-- the verdict, as an answer of the call
abbrev pub of_market : Result ℤ MarketRefusal → Result ℤ Refusal
of_market (Ok w) = Ok w
of_market (Err e) = Err (Market e)

module _ (c : Closed) (d : Day) (os : List Order) (fs : List ℕ) (bs : List Block) (gs : List ℕ) (cs : List Call) (outs : List Outcome) where
  -- the foremost refusal, or the welfare
  abbrev pub play_answer : Result ℤ Refusal
  play_answer = result_and (playable d (length cs) (length outs)) (of_market (judge_answer c d os fs bs gs))

  -- the calls are played on the passed book; or the closed book and the day come back, and all is as it was
  abbrev pub Playing : List ℕ → List Account → Result Played Unplayed → List Outcome → List ℕ → List Account → Type 0
  Playing s m (Ok r) outs' s' m' =
      (play_answer ≡ Ok r.welfare) × (r.book.counts ≡ c.counts)
      × (r.welfare ≡ welfare (orders_of (paper_of r.book os fs bs gs)) fs (blocks_of (paper_of r.book os fs bs gs)) gs)
      × Plays (paper_of r.book os fs bs gs) (state_of d s m) cs outs outs' (state_of r.day s' m')
  Playing s m (Err back) outs' s' m' =
      (play_answer ≡ Err back.refusal) × (back.book ≡ c) × (back.day ≡ d) × (outs' ≡ outs) × (s' ≡ s) × (m' ≡ m)
