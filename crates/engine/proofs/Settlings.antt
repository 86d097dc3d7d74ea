-- From settling and voiding over slices to the calls on a passed book.
use Rattle.std.proofs.Common.{◌≡◌, ℕ, Bool, true, List, [], ◌∷◌, length, take, ℤ, pos, nat_abs, Ok, Err, Result, sym, refl, ap, ◌∙◌, arith}
use Rattle.std.specs.List.{AllByRecursion as Every}
use Rattle.ledger.specs.declared.refusal.PostRefused.{PostRefused}
use Rattle.ledger.specs.declared.account.Account.{Account}
use Rattle.ledger.specs.Model.{if_taken}
use Rattle.posting.specs.Postings.{answers, posted_all}
use Rattle.market.specs.declared.records.Order.{Order}
use Rattle.market.specs.declared.records.Block.{Block}
use Rattle.market.specs.declared.records.Mark.TheVariants.{Out, Unsettled}
use Rattle.market.specs.declared.refusal.Refusal.{Refusal as MarketRefusal}
use Rattle.market.specs.declared.refusal.Refusal.TheVariants.{NoInterval, Short}
use Rattle.market.specs.Bounds.{in_day}
use Rattle.market.proofs.Facts.{tests_out}
use Rattle.entries.specs.declared.refused.SettleRefused.{SettleRefused}
use Rattle.entries.specs.Amounts.{Conditions}
use Rattle.entries.specs.Settles.{Settlement, WorkLengths, Lengths, settle_checks, settle_list, settle_steps, settle_sheet, if_posted, checked, settled_sheet, settled_accounts, settle_answer as slices_answer}
use Rattle.entries.specs.Voids.{Reversal, void_checks, void_list, void_sheet, voided_sheet, voided_accounts, void_answer as slices_void_answer}
use Rattle.engine.specs.declared.day.Day.{Day}
use Rattle.engine.specs.declared.book.Passed.{Passed}
use Rattle.engine.specs.declared.refusal.Refusal.{Refusal}
use Rattle.engine.specs.declared.refusal.Refusal.TheVariants.{Market, NotUnsettled}
use Rattle.engine.specs.Days.{Recorded, place_of, record_of, with_state, conditions_of}
use Rattle.std.specs.Result.{result_and}
use Rattle.engine.specs.Marks.{is_unsettled}
use Rattle.engine.specs.Books.{holds}
use Rattle.engine.specs.Settling.{lifted_by, lifted, ready, asked, settle_answer}
use Rattle.engine.specs.Voiding.{voidable, taken_back, void_answer}
use Rattle.engine.specs.declared.call.Call.TheVariants.{Settle, Void}
use Rattle.engine.specs.declared.call.Outcome.TheVariants.{Accepted, Refused}
use Rattle.engine.specs.Steps.{paper_of, state_of, with_steps, Takes}

-- ---- what the first checks tell
module _ (p : Passed) (d : Day) (os : List Order) (bs : List Block) (i : ℤ) (e : ready p d os bs i ≡ Ok tt) where
  passed_tests : Every {X = Bool × Refusal} (λ t. t.0 ≡ true) ((in_day d.count i, Market NoInterval) ∷ (is_unsettled (record_of d i).mark, NotUnsettled) ∷ (holds p.counts os bs, Market Short) ∷ [])
  passed_tests = tests_out ((in_day d.count i, Market NoInterval) ∷ (is_unsettled (record_of d i).mark, NotUnsettled) ∷ (holds p.counts os bs, Market Short) ∷ []) e

  -- the day has the interval
  pub ready_in : in_day d.count i ≡ true
  ready_in = passed_tests.0

-- ---- what an answer says
pub ok_parts : {X : Type 0} (chk : Result Unit MarketRefusal) (a : Result (Unit {0}) PostRefused) (z y : X) → Ok y ≡ checked chk (if_posted a z) → (chk ≡ Ok tt) × (a ≡ Ok tt) × (y ≡ z)
ok_parts (Ok u) (Ok v) z y e = (refl, refl, cc)
ok_parts (Ok u) (Err f) z y e = let n : ◌≡◌ {A = ℕ} 0 1 = cc in absurd (omega arith)
ok_parts (Err f) a z y e = let n : ◌≡◌ {A = ℕ} 0 1 = cc in absurd (omega arith)

pub err_keeps : {X Y : Type 0} (chk : Result Unit MarketRefusal) (a : Result (Unit {0}) PostRefused) (z : Y) (f : SettleRefused) (new old : X) → Err f ≡ checked chk (if_posted a z) → if_taken chk (if_taken a new old) old ≡ old
err_keeps (Ok u) (Ok v) z f new old e = let n : ◌≡◌ {A = ℕ} 0 1 = cc in absurd (omega arith)
err_keeps (Ok u) (Err g) z f new old e = refl
err_keeps (Err g) a z f new old e = refl

pub ok_gives : {X : Type 0} (chk : Result Unit MarketRefusal) (a : Result (Unit {0}) PostRefused) (new old : X) → chk ≡ Ok tt → a ≡ Ok tt → if_taken chk (if_taken a new old) old ≡ new
ok_gives chk a new old p q = ap (λ (k : Result Unit MarketRefusal). if_taken k (if_taken a new old) old) p ∙ ap (λ (k : Result (Unit {0}) PostRefused). if_taken k new old) q

-- ---- settling, over other names of the book, the interval and its terms
module _ (p : Passed) (d : Day) (os : List Order) (fs : List ℕ) (bs : List Block) (gs : List ℕ) (i : ℤ) (w : WorkLengths) (s : List ℕ) (x : Settlement) (e : x ≡ asked p d os fs bs gs i) where
  abbrev pub size : Lengths
  size = record { sheet = length s; work = w }

  -- what settling answers once it is ready
  called : (m : List Account) → ready p d os bs i ≡ Ok tt → settle_answer p d os fs bs gs i size m ≡ lifted (slices_answer (asked p d os fs bs gs i) size m)
  called m ok = ap (λ (r : Result Unit Refusal). result_and r (lifted (slices_answer (asked p d os fs bs gs i) size m))) ok

  -- a refusal of settling over slices leaves all as it was
  pub refused : (m m' : List Account) (s' : List ℕ) (f : SettleRefused) → ready p d os bs i ≡ Ok tt
      → Err f ≡ slices_answer x size m → s' ≡ settled_sheet x size m s → m' ≡ settled_accounts x size m
      → Takes (paper_of p os fs bs gs) w (state_of d s m) (Settle i) (Refused (lifted_by f)) (state_of d s' m')
  refused m m' s' f ok kept writes posts =
      let a = asked p d os fs bs gs i in
      let was : Err f ≡ slices_answer a size m = kept ∙ ap (λ (y : Settlement). slices_answer y size m) e in
      let ps = settle_list a in (
        called m ok ∙ ap lifted (sym was),
        record {
          day = refl;
          sheet = writes ∙ ap (λ (y : Settlement). settled_sheet y size m s) e ∙ err_keeps (settle_checks a size) (answers m ps) (settle_steps a) f (settle_sheet a s) s was;
          ledger = posts ∙ ap (λ (y : Settlement). settled_accounts y size m) e ∙ err_keeps (settle_checks a size) (answers m ps) (settle_steps a) f (posted_all m ps) m was;
        },
      )

  -- and otherwise the remainder is handed over, and all is written and posted
  pub settled : (m m' : List Account) (s' : List ℕ) (y : ℤ) (d' : Day) → ready p d os bs i ≡ Ok tt
      → Ok y ≡ slices_answer x size m → s' ≡ settled_sheet x size m s → m' ≡ settled_accounts x size m
      → Recorded d (place_of i) (with_state (record_of d i) Out y) d'
      → Takes (paper_of p os fs bs gs) w (state_of d s m) (Settle i) (Accepted y) (state_of d' s' m')
  settled m m' s' y d' ok gave writes posts recorded =
      let a = asked p d os fs bs gs i in
      let was : Ok y ≡ slices_answer a size m = gave ∙ ap (λ (z : Settlement). slices_answer z size m) e in
      let ps = settle_list a in
      let q = ok_parts (settle_checks a size) (answers m ps) (settle_steps a) y was in (
        called m ok ∙ ap lifted (sym was),
        record {
          day = recorded;
          sheet = writes ∙ ap (λ (z : Settlement). settled_sheet z size m s) e ∙ ok_gives (settle_checks a size) (answers m ps) (settle_sheet a s) s q.0 q.1;
          ledger = posts ∙ ap (λ (z : Settlement). settled_accounts z size m) e ∙ ok_gives (settle_checks a size) (answers m ps) (posted_all m ps) m q.0 q.1;
        },
      )

-- a settlement of the same parts is the one that is asked for
pub same_asked : (p : Passed) (d : Day) (os : List Order) (fs : List ℕ) (bs : List Block) (gs : List ℕ) (i : ℤ) (ob : List Order) (bb : List Block) (n k : ℕ) (t : Conditions)
    → ob ≡ take p.counts.orders os → bb ≡ take p.counts.blocks bs → n ≡ d.count → k ≡ nat_abs i → t ≡ conditions_of d i
    → ◌≡◌ {A = Settlement} (record { orders = ob; order_fills = fs; blocks = bb; block_fills = gs; intervals = n; interval = k; by = t }) (asked p d os fs bs gs i)
same_asked p d os fs bs gs i ob bb n k t eo eb en ek et = cc

-- ---- voiding, over the same
module _ (p : Passed) (d : Day) (os : List Order) (fs : List ℕ) (bs : List Block) (gs : List ℕ) (i : ℤ) (w : WorkLengths) (s : List ℕ) (x : Reversal) (e : x ≡ taken_back p d os bs i) where
  -- what voiding answers once the interval can be voided
  recalled : (m : List Account) → voidable p d os bs i ≡ Ok tt → void_answer p d os bs i s m ≡ lifted (slices_void_answer (taken_back p d os bs i) s m)
  recalled m ok = ap (λ (r : Result Unit Refusal). result_and r (lifted (slices_void_answer (taken_back p d os bs i) s m))) ok

  -- a refusal of voiding over slices leaves all as it was
  pub unvoided : (m m' : List Account) (s' : List ℕ) (f : SettleRefused) → voidable p d os bs i ≡ Ok tt
      → Err f ≡ slices_void_answer x s m → s' ≡ voided_sheet x s m → m' ≡ voided_accounts x s m
      → Takes (paper_of p os fs bs gs) w (state_of d s m) (Void i) (Refused (lifted_by f)) (state_of d s' m')
  unvoided m m' s' f ok kept writes posts =
      let a = taken_back p d os bs i in
      let was : Err f ≡ slices_void_answer a s m = kept ∙ ap (λ (y : Reversal). slices_void_answer y s m) e in
      let ps = void_list a s in (
        ap (λ (r : Result Unit Refusal). with_steps r (pos 0)) (recalled m ok ∙ ap lifted (sym was)),
        record {
          day = refl;
          sheet = writes ∙ ap (λ (y : Reversal). voided_sheet y s m) e ∙ err_keeps (void_checks a s) (answers m ps) tt f (void_sheet a s) s was;
          ledger = posts ∙ ap (λ (y : Reversal). voided_accounts y s m) e ∙ err_keeps (void_checks a s) (answers m ps) tt f (posted_all m ps) m was;
        },
      )

  -- and otherwise all is taken back and zeroed
  pub voided : (m m' : List Account) (s' : List ℕ) (d' : Day) → voidable p d os bs i ≡ Ok tt
      → Ok tt ≡ slices_void_answer x s m → s' ≡ voided_sheet x s m → m' ≡ voided_accounts x s m
      → Recorded d (place_of i) (with_state (record_of d i) Unsettled (pos 0)) d'
      → Takes (paper_of p os fs bs gs) w (state_of d s m) (Void i) (Accepted (pos 0)) (state_of d' s' m')
  voided m m' s' d' ok gave writes posts recorded =
      let a = taken_back p d os bs i in
      let was : Ok tt ≡ slices_void_answer a s m = gave ∙ ap (λ (z : Reversal). slices_void_answer z s m) e in
      let ps = void_list a s in
      let q = ok_parts (void_checks a s) (answers m ps) tt tt was in (
        ap (λ (r : Result Unit Refusal). with_steps r (pos 0)) (recalled m ok ∙ ap lifted (sym was)),
        record {
          day = recorded;
          sheet = writes ∙ ap (λ (z : Reversal). voided_sheet z s m) e ∙ ok_gives (void_checks a s) (answers m ps) (void_sheet a s) s q.0 q.1;
          ledger = posts ∙ ap (λ (z : Reversal). voided_accounts z s m) e ∙ ok_gives (void_checks a s) (answers m ps) (posted_all m ps) m q.0 q.1;
        },
      )

-- a reversal of the same parts is the one that is taken back
pub same_taken : (p : Passed) (d : Day) (os : List Order) (bs : List Block) (i : ℤ) (ob : List Order) (bb : List Block) (n k : ℕ) (t : Conditions) (z : ℤ)
    → ob ≡ take p.counts.orders os → bb ≡ take p.counts.blocks bs → n ≡ d.count → k ≡ nat_abs i → t ≡ conditions_of d i → z ≡ (record_of d i).remainder
    → ◌≡◌ {A = Reversal} (record { orders = ob; blocks = bb; intervals = n; interval = k; by = t; steps = z }) (taken_back p d os bs i)
same_taken p d os bs i ob bb n k t z eo eb en ek et ez = cc
