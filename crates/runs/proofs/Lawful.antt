-- Every run from where a paper passed and nothing is settled keeps the law.
use Rattle.std.proofs.Common.{◌≡◌, ℕ, zero, suc, ◌-◌, ◌≤◌, Bool, true, false, cond, ◌&&◌, ◌↔◌, List, [], ◌∷◌, length, get_or, take, drop, ℤ, pos, negsuc, ◌+ℤ◌, ◌-ℤ◌, ◌*ℤ◌, neg_ℤ, Ok, Err, Result, sym, refl, ap, ◌∙◌, subst, ⊎_elim, arith}
use borrow.Author.Differences.{ints}
use Rattle.std.proofs.lemmas.List.{take_at, drop_at, get_or-take, get_or_past}
use Rattle.std.proofs.lemmas.Bool.{and_parts, cases_lt}
use Rattle.ledger.specs.declared.account.Account.{Account}
use Rattle.ledger.specs.declared.refusal.PostRefused.{PostRefused}
use Rattle.ledger.specs.Model.{answer, total}
use Rattle.ledger.proofs.Posting.{total-posted}
use Rattle.posting.specs.Postings.{answers, posted_all, amounts}
use Rattle.posting.proofs.Order.{all_taken, total_all}
use Rattle.market.specs.declared.records.Mark.{Mark}
use Rattle.market.specs.declared.records.Mark.TheVariants.{Unsettled, Out, Noted, Closed}
use Rattle.market.specs.declared.records.Interval.{Interval}
use Rattle.market.specs.declared.refusal.Refusal.TheVariants.{NoInterval, Short}
use Rattle.market.specs.Blank.{fresh}
use Rattle.market.specs.Bounds.{same, in_day}
use Rattle.market.proofs.Facts.{between_two, same_yes, same_no, same_true}
use Rattle.verdict.specs.Passes.{LawfulBook}
use Rattle.verdict.specs.Best.{Best}
use Rattle.verdict.proofs.Eachs.{each_length}
use Rattle.verdict.proofs.Rivals.{best}
use Rattle.market.specs.Kinds.{orders, blocks}
use Rattle.cuts.specs.Numbers.{net}
use Rattle.cuts.specs.Settled.{settled_orders, settled_blocks, settled_numbers, remainder_of}
use Rattle.cuts.proofs.Cutting.{length_settled_orders, length_settled_blocks}
use Rattle.cuts.proofs.Remainders.{settles}
use Rattle.entries.specs.declared.refused.SettleRefused.{SettleRefused}
use Rattle.entries.specs.Amounts.{void_postings}
use Rattle.entries.specs.Sheet.{Laid, sheet_numbers, sheet_with, sheet_without}
use Rattle.entries.specs.Settles.{WorkLengths, settle_checks, settle_list, settle_steps, settle_sheet, settle_numbers, if_posted, checked}
use Rattle.entries.specs.Voids.{void_checks, void_list, void_sheet}
use Rattle.entries.proofs.Moving.{sum_moved}
use Rattle.entries.proofs.Readiness.{ready_from}
use Rattle.entries.proofs.Refusing.{voidable_from}
use Rattle.entries.proofs.Returning.{settled_back, others_kept, others_zeroed}
use Rattle.entries.proofs.Voids.{voids_are}
use Rattle.engine.specs.declared.day.Day.{Day}
use Rattle.engine.specs.declared.call.Call.{Call}
use Rattle.engine.specs.declared.call.Call.TheVariants.{Settle, Book, Note, TakeUp, Void}
use Rattle.engine.specs.declared.call.Outcome.{Outcome}
use Rattle.engine.specs.declared.call.Outcome.TheVariants.{Accepted, Refused}
use Rattle.engine.specs.declared.refusal.Refusal.{Refusal}
use Rattle.engine.specs.declared.refusal.Refusal.TheVariants.{Market, NotUnsettled, NotOut, NotNoted, NotClosed}
use Rattle.engine.specs.Days.{records, record_of, conditions_of, quarters_of, with_state}
use Rattle.std.specs.Result.{result_and}
use Rattle.market.specs.First.{tests}
use Rattle.engine.specs.Books.{holds}
use Rattle.engine.specs.Marks.{is_unsettled, is_out, is_noted, is_closed, shows_out, with_mark, note_answer, take_answer}
use Rattle.engine.specs.Booking.{booked, posting_answer, book_answer}
use Rattle.engine.specs.Settling.{lifted}
use Rattle.engine.specs.Steps as steps_of
use Rattle.engine.specs.Steps.{Paper, State, orders_of, blocks_of, lengths_in, settled_in, voided_in, with_steps, call_answer, Books, Notes, TakesUp, Voids, Takes, Unchanged}
use Rattle.runs.specs.Runs.{Event, event_of, Run, start, next, settled, unbooked, sum_to, numbers_in, sold, rounded_of, CutsReach, Law, PassesOn, NothingSettled}
use Rattle.engine.proofs.Opens.{count_records}
use Rattle.market.proofs.Facts.{tests_out}
use Rattle.engine.proofs.Settlings.{ok_parts}
use Rattle.runs.proofs.Opened.{shown_is}
use Rattle.runs.proofs.Prices.{passes_still}
use Rattle.runs.proofs.Kept.{Within, record_at, Agree, cut_of, due_of, worth_at, Kept, worth_nil, after_one}

-- ---- what an accepted call tells

then_ok : {X : Type 0} (r : Result Unit Refusal) (n : Result X Refusal) (x : X) → result_and r n ≡ Ok x → (r ≡ Ok tt) × (n ≡ Ok x)
then_ok (Ok u) n x e = (refl, e)
then_ok (Err f) n x e = let z : ◌≡◌ {A = ℕ} 0 1 = cc in absurd (omega arith)

with_ok : (r : Result Unit Refusal) (y z : ℤ) → with_steps r y ≡ Ok z → (r ≡ Ok tt) × (z ≡ y)
with_ok (Ok u) y z e = (refl, cc)
with_ok (Err f) y z e = let n : ◌≡◌ {A = ℕ} 0 1 = cc in absurd (omega arith)

lifted_ok : {X : Type 0} (r : Result X SettleRefused) (x : X) → lifted r ≡ Ok x → Ok x ≡ r
lifted_ok (Ok y) x e = let same : y ≡ x = cc in ap (λ v. Ok v) (sym same)
lifted_ok (Err f) x e = let n : ◌≡◌ {A = ℕ} 0 1 = cc in absurd (omega arith)

posting_ok : (a : Result (Unit {0}) PostRefused) → posting_answer a ≡ Ok tt → a ≡ Ok tt
posting_ok (Ok u) e = refl
posting_ok (Err f) e = let n : ◌≡◌ {A = ℕ} 0 1 = cc in absurd (omega arith)

within_day : (d : Day) (j : ℕ) → in_day d.count (pos j) ≡ true → Within d j
within_day d j e = let b = between_two (pos 1) (pos j) (pos d.count) e in record { from = omega (arith, ints); to = omega (arith, ints) }

never_below : (n k : ℕ) → in_day n (negsuc k) ≡ true → ⊥
never_below n k e = let b = between_two (pos 1) (negsuc k) (pos n) e in omega (arith, ints)

pub unsettled_is : (m : Mark) → is_unsettled m ≡ true → m ≡ Unsettled
unsettled_is Unsettled e = refl
unsettled_is Out e = let z : ◌≡◌ {A = ℕ} 0 1 = cc in absurd (omega arith)
unsettled_is Noted e = let z : ◌≡◌ {A = ℕ} 0 1 = cc in absurd (omega arith)
unsettled_is Closed e = let z : ◌≡◌ {A = ℕ} 0 1 = cc in absurd (omega arith)

out_is : (m : Mark) → is_out m ≡ true → m ≡ Out
out_is Out e = refl
out_is Unsettled e = let z : ◌≡◌ {A = ℕ} 0 1 = cc in absurd (omega arith)
out_is Noted e = let z : ◌≡◌ {A = ℕ} 0 1 = cc in absurd (omega arith)
out_is Closed e = let z : ◌≡◌ {A = ℕ} 0 1 = cc in absurd (omega arith)

noted_is : (m : Mark) → is_noted m ≡ true → m ≡ Noted
noted_is Noted e = refl
noted_is Unsettled e = let z : ◌≡◌ {A = ℕ} 0 1 = cc in absurd (omega arith)
noted_is Out e = let z : ◌≡◌ {A = ℕ} 0 1 = cc in absurd (omega arith)
noted_is Closed e = let z : ◌≡◌ {A = ℕ} 0 1 = cc in absurd (omega arith)

closed_is : (m : Mark) → is_closed m ≡ true → m ≡ Closed
closed_is Closed e = refl
closed_is Unsettled e = let z : ◌≡◌ {A = ℕ} 0 1 = cc in absurd (omega arith)
closed_is Out e = let z : ◌≡◌ {A = ℕ} 0 1 = cc in absurd (omega arith)
closed_is Noted e = let z : ◌≡◌ {A = ℕ} 0 1 = cc in absurd (omega arith)

record Shown (d : Day) (j : ℕ) (z : ℤ) : Type 0 where
  within : Within d j
  out : (record_of d (pos j)).mark ≡ Out
  rest : (record_of d (pos j)).remainder ≡ z

shown : (d : Day) (j : ℕ) (z : ℤ) → shows_out d (pos j) z ≡ true → Shown d j z
shown d j z e =
    let x = record_of d (pos j) in
    let a = and_parts (in_day d.count (pos j)) (is_out x.mark && same x.remainder z) e in
    let b = and_parts (is_out x.mark) (same x.remainder z) a.1 in
    record { within = within_day d j a.0; out = out_is x.mark b.0; rest = same_true x.remainder z b.1 }

never_shown : (d : Day) (k : ℕ) (z : ℤ) → shows_out d (negsuc k) z ≡ true → ⊥
never_shown d k z e =
    let x = record_of d (negsuc k) in
    never_below d.count k (and_parts (in_day d.count (negsuc k)) (is_out x.mark && same x.remainder z) e).0

other_no : (j i : ℕ) → (j ≡ i → ⊥) → same (pos j) (pos i) ≡ false
other_no j i ne = same_no (pos j) (pos i) (λ q. ne (let r : j ≡ i = cc in r))

-- ---- what settling and voiding an interval come to
module _ (p : Paper) (s : State) (j : ℕ) where
  steps_are : settle_steps (settled_in p s (pos j)) ≡ due_of p s j
  unfolding settle_steps
  steps_are = refl

  sheet_is : settle_sheet (settled_in p s (pos j)) s.sheet ≡ sheet_with (orders_of p) (blocks_of p) s.day.count j (cut_of p s j) s.sheet
  unfolding settle_sheet settle_numbers
  sheet_is = refl

  settle_laid : (w : WorkLengths) → settle_checks (settled_in p s (pos j)) (lengths_in w s) ≡ Ok tt → Laid (length (orders_of p)) (length (blocks_of p)) s.day.count j (length s.sheet)
  settle_laid w e = (ready_from (settled_in p s (pos j)) (lengths_in w s) e).laid

  settle_total : length p.order_fills ≡ length (orders_of p) → length p.block_fills ≡ length (blocks_of p)
      → answers s.ledger (settle_list (settled_in p s (pos j))) ≡ Ok tt
      → total (posted_all s.ledger (settle_list (settled_in p s (pos j)))) ≡ total s.ledger +ℤ worth_at s j (due_of p s j)
  unfolding settle_steps
  settle_total a b e = sum_moved (settled_in p s (pos j)) a b s.ledger e

  zeroed_is : void_sheet (voided_in p s (pos j)) s.sheet ≡ sheet_without (orders_of p) (blocks_of p) s.day.count j s.sheet
  unfolding void_sheet
  zeroed_is = refl

  void_laid : void_checks (voided_in p s (pos j)) s.sheet ≡ Ok tt → Laid (length (orders_of p)) (length (blocks_of p)) s.day.count j (length s.sheet)
  void_laid e = (voidable_from (voided_in p s (pos j)) s.sheet e).laid

  -- voiding by the settled numbers moves the sum by the worth of the remainder less that of the one that is due
  void_total : length p.order_fills ≡ length (orders_of p) → length p.block_fills ≡ length (blocks_of p) → numbers_in p s j ≡ cut_of p s j
      → answers s.ledger (void_list (voided_in p s (pos j)) s.sheet) ≡ Ok tt
      → total (posted_all s.ledger (void_list (voided_in p s (pos j)) s.sheet)) ≡ total s.ledger +ℤ (worth_at s j (record_at s j).remainder -ℤ worth_at s j (due_of p s j))
  unfolding void_list settled_numbers remainder_of
  void_total a b same e =
      let os = orders_of p in
      let bs = blocks_of p in
      let t = conditions_of s.day (pos j) in
      let z : ℤ = (record_at s j).remainder in
      let so = settled_orders os p.order_fills bs p.block_fills j (record_at s j).rounded in
      let sb = settled_blocks os p.order_fills bs p.block_fills j (record_at s j).rounded in
      let ps = void_list (voided_in p s (pos j)) s.sheet in
      total_all s.ledger ps (all_taken s.ledger ps e)
      ∙ ap (λ (ns : List ℕ). total s.ledger +ℤ amounts (void_postings os bs ns t z)) same
      ∙ ap (λ (x : ℤ). total s.ledger +ℤ x) (voids_are os bs so sb t z (length_settled_orders os p.order_fills bs p.block_fills j (record_at s j).rounded a) (length_settled_blocks os p.order_fills bs p.block_fills j (record_at s j).rounded b))

-- ---- one call
module _ (p : Paper) (s₀ : State) (all_orders : length p.order_fills ≡ length (orders_of p)) (all_blocks : length p.block_fills ≡ length (blocks_of p))
    (h : List Event) (s s' : State) (kept : Kept p s₀ h s) where
  from_day : (j : ℕ) → Within s.day j → Within s₀.day j
  from_day j w = record { from = w.from; to = omega (arith, kept.count, w.to) }

  -- what a record shows where its mark is known
  at_mark : (j : ℕ) (m : Mark) → Within s₀.day j → (record_at s j).mark ≡ m → Agree m (record_at s j).remainder (unbooked h j) (settled h j) (numbers_in p s j) (cut_of p s₀ j) (due_of p s₀ j)
  at_mark j m w e = subst (λ (k : Mark). Agree k (record_at s j).remainder (unbooked h j) (settled h j) (numbers_in p s j) (cut_of p s₀ j) (due_of p s₀ j)) e (kept.agree j w)

  same_worth : (j : ℕ) → Within s₀.day j → (z : ℤ) → worth_at s j z ≡ worth_at s₀ j z
  same_worth j w z =
      ap (λ (x : ℤ). (x *ℤ z) *ℤ pos (quarters_of s.day.minutes)) (kept.price j w)
      ∙ ap (λ (x : ℤ). ((record_at s₀ j).price *ℤ z) *ℤ pos (quarters_of x)) kept.minutes

  same_numbers : s'.day.count ≡ s.day.count → s'.sheet ≡ s.sheet → (i : ℕ) → numbers_in p s' i ≡ numbers_in p s i
  same_numbers n e i =
      ap (λ (k : ℕ). sheet_numbers (orders_of p) (blocks_of p) k i s'.sheet) n ∙ ap (λ (x : List ℕ). sheet_numbers (orders_of p) (blocks_of p) s.day.count i x) e

  -- the other intervals, where the numbers of j were written
  other_numbers : (j : ℕ) (ns : List ℕ) → s'.day.count ≡ s.day.count → s'.sheet ≡ sheet_with (orders_of p) (blocks_of p) s.day.count j ns s.sheet
      → Laid (length (orders_of p)) (length (blocks_of p)) s.day.count j (length s.sheet) → (i : ℕ) → Within s₀.day i → (j ≡ i → ⊥) → numbers_in p s' i ≡ numbers_in p s i
  other_numbers j ns n e laid i w ne =
      ap (λ (k : ℕ). sheet_numbers (orders_of p) (blocks_of p) k i s'.sheet) n
      ∙ ap (λ (x : List ℕ). sheet_numbers (orders_of p) (blocks_of p) s.day.count i x) e
      ∙ others_kept (orders_of p) (blocks_of p) s.day.count j i s.sheet laid w.from (omega (arith, w.to, kept.count)) ne ns

  -- and where they were zeroed
  others_left : (j : ℕ) → s'.day.count ≡ s.day.count → s'.sheet ≡ sheet_without (orders_of p) (blocks_of p) s.day.count j s.sheet
      → Laid (length (orders_of p)) (length (blocks_of p)) s.day.count j (length s.sheet) → (i : ℕ) → Within s₀.day i → (j ≡ i → ⊥) → numbers_in p s' i ≡ numbers_in p s i
  others_left j n e laid i w ne =
      ap (λ (k : ℕ). sheet_numbers (orders_of p) (blocks_of p) k i s'.sheet) n
      ∙ ap (λ (x : List ℕ). sheet_numbers (orders_of p) (blocks_of p) s.day.count i x) e
      ∙ others_zeroed (orders_of p) (blocks_of p) s.day.count j i s.sheet laid w.from (omega (arith, w.to, kept.count)) ne

  by_note : (i z y : ℤ) → call_answer p (record { numbers = 0; orders = 0; blocks = 0 }) s (Note i z) ≡ Ok y → Notes i s s' → Kept p s₀ (event_of (Note i z) (Accepted y) ∷ h) s'
  by_note (negsuc k) z y e m =
      absurd (never_shown s.day k z (tests_out ((shows_out s.day (negsuc k) z, NotOut) ∷ []) (with_ok (note_answer s.day (negsuc k) z) z y e).0).0)
  by_note (pos j) z y e m =
      let k = shown s.day j z (tests_out ((shows_out s.day (pos j) z, NotOut) ∷ []) (with_ok (note_answer s.day (pos j) z) z y e).0).0 in
      let w = from_day j k.within in
      let was = at_mark j Out w k.out in
      after_one p s₀ h s s' (event_of (Note (pos j) z) (Accepted y)) j (with_mark (record_at s j) Noted) kept w m.day refl refl refl
      (λ i v ne. same_numbers m.day.count m.sheet i) (λ i ne. refl) (λ i ne. refl)
      (let a = ap total m.ledger in omega (arith, ints))
      (was.0, was.1, same_numbers m.day.count m.sheet j ∙ was.2, was.3)

  by_take_up : (i y : ℤ) → call_answer p (record { numbers = 0; orders = 0; blocks = 0 }) s (TakeUp i) ≡ Ok y → TakesUp i s s' → Kept p s₀ (event_of (TakeUp i) (Accepted y) ∷ h) s'
  by_take_up (negsuc k) y e m =
      let x = record_of s.day (negsuc k) in
      absurd (never_below s.day.count k (tests_out ((in_day s.day.count (negsuc k), Market NoInterval) ∷ (is_noted x.mark, NotNoted) ∷ []) (with_ok (take_answer s.day (negsuc k)) x.remainder y e).0).0)
  by_take_up (pos j) y e m =
      let x = record_at s j in
      let t = tests_out ((in_day s.day.count (pos j), Market NoInterval) ∷ (is_noted x.mark, NotNoted) ∷ []) (with_ok (take_answer s.day (pos j)) x.remainder y e).0 in
      let w = from_day j (within_day s.day j t.0) in
      let was = at_mark j Noted w (noted_is x.mark t.1.0) in
      after_one p s₀ h s s' (event_of (TakeUp (pos j)) (Accepted y)) j (with_mark x Out) kept w m.day refl refl refl
      (λ i v ne. same_numbers m.day.count m.sheet i) (λ i ne. refl) (λ i ne. refl)
      (let a = ap total m.ledger in omega (arith, ints))
      (was.0, was.1, same_numbers m.day.count m.sheet j ∙ was.2, was.3)

  by_book : (i z y : ℤ) → call_answer p (record { numbers = 0; orders = 0; blocks = 0 }) s (Book i z) ≡ Ok y → Books i z s s' → Kept p s₀ (event_of (Book i z) (Accepted y) ∷ h) s'
  by_book (negsuc k) z y e m =
      let owed = booked s.day (negsuc k) z in
      absurd (never_shown s.day k z (tests_out ((shows_out s.day (negsuc k) z, NotOut) ∷ []) (then_ok (note_answer s.day (negsuc k) z) (posting_answer (answer s.ledger owed.account owed.amount)) tt (with_ok (book_answer s.day (negsuc k) z s.ledger) z y e).0).0).0)
  by_book (pos j) z y e m =
      let owed = booked s.day (pos j) z in
      let a = answer s.ledger owed.account owed.amount in
      let t = then_ok (note_answer s.day (pos j) z) (posting_answer a) tt (with_ok (book_answer s.day (pos j) z s.ledger) z y e).0 in
      let k = shown s.day j z (tests_out ((shows_out s.day (pos j) z, NotOut) ∷ []) t.0).0 in
      let w = from_day j k.within in
      let was = at_mark j Out w k.out in
      let yes = same_yes (pos j) (pos j) refl in
      let now-open : unbooked (event_of (Book (pos j) z) (Accepted y) ∷ h) j ≡ pos 0 = ap (λ (b : Bool). cond b (pos 0) (unbooked h j)) yes in
      let paid : total s'.ledger ≡ total s.ledger +ℤ neg_ℤ (worth_at s₀ j z) =
      ap total m.ledger ∙ total-posted s.ledger owed.account owed.amount (posting_ok a t.1) ∙ ap (λ (v : ℤ). total s.ledger +ℤ neg_ℤ v) (same_worth j w z) in
      after_one p s₀ h s s' (event_of (Book (pos j) z) (Accepted y)) j (with_mark (record_at s j) Closed) kept w m.day refl refl refl
      (λ i v ne. same_numbers m.day.count m.sheet i)
      (λ i ne. ap (λ (b : Bool). cond b (pos 0) (unbooked h i)) (other_no j i ne))
      (λ i ne. refl)
      (let b = ap (worth_at s₀ j) now-open in let c = ap (worth_at s₀ j) (was.0 ∙ k.rest) in let n = worth_nil (conditions_of s₀.day (pos j)) in omega (arith, ints))
      (now-open, was.1, same_numbers m.day.count m.sheet j ∙ was.2, was.3)

  -- the numbers and the remainder of the cuts go by R, which stays
  same_cut : (j : ℕ) → Within s₀.day j → cut_of p s j ≡ cut_of p s₀ j
  same_cut j w = ap (settled_numbers (orders_of p) p.order_fills (blocks_of p) p.block_fills j) (kept.rounded j w)

  same_due : (j : ℕ) → Within s₀.day j → due_of p s j ≡ due_of p s₀ j
  same_due j w = ap (remainder_of (orders_of p) p.order_fills (blocks_of p) p.block_fills j) (kept.rounded j w)

  by_settle : (w : WorkLengths) (i z : ℤ) → call_answer p w s (Settle i) ≡ Ok z → steps_of.Settles p i z s s' → Kept p s₀ (event_of (Settle i) (Accepted z) ∷ h) s'
  by_settle r (negsuc k) z e m =
      let d = s.day in
      let b = p.book in
      let x = settled_in p s (negsuc k) in
      let more = lifted (checked (settle_checks x (lengths_in r s)) (if_posted (answers s.ledger (settle_list x)) (settle_steps x))) in
      let table = (in_day d.count (negsuc k), Market NoInterval) ∷ (is_unsettled (record_of d (negsuc k)).mark, NotUnsettled) ∷ (holds b.counts p.orders p.blocks, Market Short) ∷ [] in
      absurd (never_below d.count k (tests_out table (then_ok (tests table) more z e).0).0)
  by_settle r (pos j) z e m =
      let d = s.day in
      let b = p.book in
      let x = settled_in p s (pos j) in
      let chk = settle_checks x (lengths_in r s) in
      let a = answers s.ledger (settle_list x) in
      let y : ℤ = settle_steps x in
      let table = (in_day d.count (pos j), Market NoInterval) ∷ (is_unsettled (record_at s j).mark, NotUnsettled) ∷ (holds b.counts p.orders p.blocks, Market Short) ∷ [] in
      let t = then_ok (tests table) (lifted (checked chk (if_posted a y))) z e in
      let q = ok_parts chk a y z (lifted_ok (checked chk (if_posted a y)) z t.1) in
      let u = tests_out table t.0 in
      let w = from_day j (within_day d j u.0) in
      let was = at_mark j Unsettled w (unsettled_is (record_at s j).mark u.1.0) in
      let laid = settle_laid p s j r q.0 in
      let yes = same_yes (pos j) (pos j) refl in
      let now-open : unbooked (event_of (Settle (pos j)) (Accepted z) ∷ h) j ≡ z = ap (λ (v : Bool). cond v z (unbooked h j)) yes in
      let now-settled : settled (event_of (Settle (pos j)) (Accepted z) ∷ h) j ≡ true = ap (λ (v : Bool). cond v true (settled h j)) yes in
      let due : z ≡ due_of p s j = q.2 ∙ steps_are p s j in
      let written : s'.sheet ≡ sheet_with (orders_of p) (blocks_of p) d.count j (cut_of p s j) s.sheet = m.sheet ∙ sheet_is p s j in
      let held : numbers_in p s' j ≡ cut_of p s₀ j =
      ap (λ (k : ℕ). sheet_numbers (orders_of p) (blocks_of p) k j s'.sheet) m.day.count
      ∙ ap (λ (x : List ℕ). sheet_numbers (orders_of p) (blocks_of p) d.count j x) written
      ∙ settled_back (orders_of p) p.order_fills (blocks_of p) p.block_fills d.count j (record_at s j).rounded s.sheet all_orders all_blocks laid
      ∙ same_cut j w in
      let paid : total s'.ledger ≡ total s.ledger +ℤ worth_at s₀ j z =
      ap total m.ledger ∙ settle_total p s j all_orders all_blocks q.1 ∙ ap (λ (v : ℤ). total s.ledger +ℤ worth_at s j v) (sym due) ∙ ap (λ (v : ℤ). total s.ledger +ℤ v) (same_worth j w z) in
      after_one p s₀ h s s' (event_of (Settle (pos j)) (Accepted z)) j (with_state (record_at s j) Out z) kept w m.day refl refl refl
      (other_numbers j (cut_of p s j) m.day.count written laid)
      (λ i ne. ap (λ (v : Bool). cond v z (unbooked h i)) (other_no j i ne))
      (λ i ne. ap (λ (v : Bool). cond v true (settled h i)) (other_no j i ne))
      (let f = ap (worth_at s₀ j) now-open in let c = ap (worth_at s₀ j) was.0 in let n = worth_nil (conditions_of s₀.day (pos j)) in omega (arith, ints))
      (now-open, now-settled, held, due ∙ same_due j w)

  by_void : (i y : ℤ) → call_answer p (record { numbers = 0; orders = 0; blocks = 0 }) s (Void i) ≡ Ok y → Voids p i s s' → Kept p s₀ (event_of (Void i) (Accepted y) ∷ h) s'
  by_void (negsuc k) y e m =
      let d = s.day in
      let b = p.book in
      let x = voided_in p s (negsuc k) in
      let more = lifted (checked (void_checks x s.sheet) (if_posted (answers s.ledger (void_list x s.sheet)) tt)) in
      let table = (in_day d.count (negsuc k), Market NoInterval) ∷ (is_closed (record_of d (negsuc k)).mark, NotClosed) ∷ (holds b.counts p.orders p.blocks, Market Short) ∷ [] in
      absurd (never_below d.count k (tests_out table (then_ok (tests table) more tt (with_ok (result_and (tests table) more) (pos 0) y e).0).0).0)
  by_void (pos j) y e m =
      let d = s.day in
      let b = p.book in
      let x = voided_in p s (pos j) in
      let chk = void_checks x s.sheet in
      let a = answers s.ledger (void_list x s.sheet) in
      let table = (in_day d.count (pos j), Market NoInterval) ∷ (is_closed (record_at s j).mark, NotClosed) ∷ (holds b.counts p.orders p.blocks, Market Short) ∷ [] in
      let more = lifted (checked chk (if_posted a tt)) in
      let t = then_ok (tests table) more tt (with_ok (result_and (tests table) more) (pos 0) y e).0 in
      let q = ok_parts chk a tt tt (lifted_ok (checked chk (if_posted a tt)) tt t.1) in
      let u = tests_out table t.0 in
      let w = from_day j (within_day d j u.0) in
      let was = at_mark j Closed w (closed_is (record_at s j).mark u.1.0) in
      let laid = void_laid p s j q.0 in
      let yes = same_yes (pos j) (pos j) refl in
      let now-open : unbooked (event_of (Void (pos j)) (Accepted y) ∷ h) j ≡ pos 0 = ap (λ (v : Bool). cond v (pos 0) (unbooked h j)) yes in
      let now-settled : settled (event_of (Void (pos j)) (Accepted y) ∷ h) j ≡ false = ap (λ (v : Bool). cond v false (settled h j)) yes in
      let due : (record_at s j).remainder ≡ due_of p s j = was.3 ∙ sym (same_due j w) in
      let zeroed : s'.sheet ≡ sheet_without (orders_of p) (blocks_of p) d.count j s.sheet = m.sheet ∙ zeroed_is p s j in
      let none : worth_at s j (record_at s j).remainder -ℤ worth_at s j (due_of p s j) ≡ pos 0 = let x = ap (worth_at s j) due in omega (arith, ints) in
      let paid : total s'.ledger ≡ total s.ledger +ℤ pos 0 =
      ap total m.ledger ∙ void_total p s j all_orders all_blocks (was.2 ∙ sym (same_cut j w)) q.1 ∙ ap (λ (v : ℤ). total s.ledger +ℤ v) none in
      after_one p s₀ h s s' (event_of (Void (pos j)) (Accepted y)) j (with_state (record_at s j) Unsettled (pos 0)) kept w m.day refl refl refl
      (others_left j m.day.count zeroed laid)
      (λ i ne. ap (λ (v : Bool). cond v (pos 0) (unbooked h i)) (other_no j i ne))
      (λ i ne. ap (λ (v : Bool). cond v false (settled h i)) (other_no j i ne))
      (let f = ap (worth_at s₀ j) now-open in let c = ap (worth_at s₀ j) was.0 in omega (arith, ints))
      (now-open, now-settled)

  same_state : Unchanged s s' → s ≡ s'
  same_state m =
      ap (λ (d : Day). record { day = d; sheet = s.sheet; ledger = s.ledger }) (sym m.day)
      ∙ ap (λ (x : List ℕ). record { day = s'.day; sheet = x; ledger = s.ledger }) (sym m.sheet)
      ∙ ap (λ (x : List Account). record { day = s'.day; sheet = s'.sheet; ledger = x }) (sym m.ledger)

  by_call : (w : WorkLengths) (c : Call) (o : Outcome) → Takes p w s c o s' → Kept p s₀ (event_of c o ∷ h) s'
  by_call w (Settle i) (Accepted z) t = by_settle w i z t.0 t.1
  by_call w (Book i x) (Accepted z) t = by_book i x z t.0 t.1
  by_call w (Note i x) (Accepted z) t = by_note i x z t.0 t.1
  by_call w (TakeUp i) (Accepted z) t = by_take_up i z t.0 t.1
  by_call w (Void i) (Accepted z) t = by_void i z t.0 t.1
  by_call w c (Refused e) t =
      subst (Kept p s₀ (event_of c (Refused e) ∷ h)) (same_state t.1)
      (record { minutes = kept.minutes; count = kept.count; price = kept.price; net = kept.net; rounded = kept.rounded; agree = kept.agree; sums = kept.sums })

-- ---- any run
zero_sum : (s₀ : State) (n : ℕ) → sum_to n (λ i. worth_at s₀ i (unbooked [] i)) ≡ pos 0
zero_sum s₀ zero = refl
zero_sum s₀ (suc n) = omega (arith, ints, zero_sum s₀ n, worth_nil (conditions_of s₀.day (pos (suc n))))

at_start : (p : Paper) (s₀ : State) → NothingSettled s₀.day → Kept p s₀ [] s₀
at_start p s₀ f = record {
  minutes = refl;
  count = refl;
  price = λ i w. refl;
  net = λ i w. refl;
  rounded = λ i w. refl;
  agree = λ i w. subst (λ (k : Mark). Agree k (record_at s₀ i).remainder (pos 0) false (numbers_in p s₀ i) (cut_of p s₀ i) (due_of p s₀ i)) (sym (f i w.from w.to)) (refl, refl);
  sums = omega (arith, ints, zero_sum s₀ s₀.day.count);
}

module _ (p : Paper) (s₀ : State) (ok : PassesOn p s₀.day) (none : NothingSettled s₀.day) where
  all_orders : length p.order_fills ≡ length (orders_of p)
  all_orders = sym (each_length _ (orders_of p) p.order_fills ok.rules.orders)

  all_blocks : length p.block_fills ≡ length (blocks_of p)
  all_blocks = sym (each_length _ (blocks_of p) p.block_fills ok.rules.blocks)

  kept_along : (h : List Event) (s : State) → Run p s₀ h s → Kept p s₀ h s
  kept_along h s start = at_start p s₀ none
  kept_along h s (next {h = k} {s = t} {e = e} r m) = by_call p s₀ all_orders all_blocks k t s (kept_along k t r) m.work e.call e.outcome m.takes

  -- a settled interval has its settled numbers in the sheet
  held_at : (m : Mark) (z o : ℤ) (b : Bool) (ns cut : List ℕ) (due : ℤ) → Agree m z o b ns cut due → b ≡ true → ns ≡ cut
  held_at Unsettled z o b ns cut due g t = let c : ◌≡◌ {A = ℕ} 0 1 = cc in absurd (omega arith)
  held_at Out z o b ns cut due g t = g.2
  held_at Noted z o b ns cut due g t = g.2
  held_at Closed z o b ns cut due g t = g.2

  module _ (h : List Event) (s : State) (kept : Kept p s₀ h s) where
    -- sells less buys in the sheet are the remainder of the cuts plus R
    sold_is : (i : ℕ) → numbers_in p s i ≡ cut_of p s i → due_of p s i ≡ sold p s i -ℤ rounded_of p s i
    unfolding settled_numbers remainder_of
    sold_is i e =
        let os = orders_of p in
        let bs = blocks_of p in
        let r : ℤ = (record_at s i).rounded in
        let so = settled_orders os p.order_fills bs p.block_fills i r in
        let sb = settled_blocks os p.order_fills bs p.block_fills i r in
        let long = length_settled_orders os p.order_fills bs p.block_fills i r all_orders in
        let a : take (length os) (numbers_in p s i) ≡ so = ap (take (length os)) e ∙ take_at so sb (length os) long in
        let b : drop (length os) (numbers_in p s i) ≡ sb = ap (drop (length os)) e ∙ drop_at so sb (length os) long in
        ap (λ (x : List ℕ). (net orders os x +ℤ net blocks bs sb) -ℤ r) (sym a) ∙ ap (λ (x : List ℕ). (net orders os (take (length os) (numbers_in p s i)) +ℤ net blocks bs x) -ℤ r) (sym b)

    balanced : (i : ℕ) → 1 ≤ i → i ≤ s₀.day.count → settled h i ≡ true → (sold p s i ≡ rounded_of p s i) ↔ CutsReach p s i
    balanced i lo hi t =
        let w : Within s₀.day i = record { from = lo; to = hi } in
        let held = held_at (record_at s i).mark (record_at s i).remainder (unbooked h i) (settled h i) (numbers_in p s i) (cut_of p s₀ i) (due_of p s₀ i) (kept.agree i w) t in
        let cut : numbers_in p s i ≡ cut_of p s i = held ∙ ap (settled_numbers (orders_of p) p.order_fills (blocks_of p) p.block_fills i) (sym (kept.rounded i w)) in
        let is = sold_is i cut in
        let law = settles (orders_of p) p.order_fills (blocks_of p) p.block_fills i (record_at s i).rounded in
        ((λ e. law.reached (omega (arith, ints))), (λ r. let z = law.reaches r in omega (arith, ints)))

    part_of : (f : Interval → ℤ) → ((i : ℕ) → Within s₀.day i → f (record_at s i) ≡ f (record_at s₀ i)) → (k : ℕ) → f (get_or (records s.day) k fresh) ≡ f (get_or (records s₀.day) k fresh)
    part_of f same k =
        let n = count_records s.day in
        let n₀ = count_records s₀.day in
        ⊎_elim
        (λ lt. let at : suc k - 1 ≡ k = omega arith in
        ap f (get_or-take s.day.count s.day.intervals k fresh (omega (arith, kept.count)))
        ∙ subst (λ (j : ℕ). f (get_or s.day.intervals j fresh) ≡ f (get_or s₀.day.intervals j fresh)) at (same (suc k) (record { from = omega arith; to = omega arith }))
        ∙ ap f (sym (get_or-take s₀.day.count s₀.day.intervals k fresh lt)))
        (λ past. ap f (get_or_past (records s.day) k fresh (omega (arith, kept.count)) ∙ sym (get_or_past (records s₀.day) k fresh (omega arith))))
        (cases_lt k s₀.day.count)

    greatest : Best (records s.day) (orders_of p) p.order_fills (blocks_of p) p.block_fills
    greatest =
        let n = count_records s.day in
        let n₀ = count_records s₀.day in
        let same : s₀.day.count ≡ length (records s.day) = omega (arith, kept.count) in
        best (records s.day) (orders_of p) p.order_fills (blocks_of p) p.block_fills
        (subst (λ (k : ℕ). LawfulBook k (orders_of p) (blocks_of p)) same ok.lawful)
        (passes_still (records s₀.day) (records s.day) (omega (arith, kept.count)) (part_of (λ (x : Interval). x.price) kept.price) (part_of (λ (x : Interval). x.net) kept.net) (orders_of p) p.order_fills (blocks_of p) p.block_fills ok.rules)

    lawful : Law p s₀ h s
    lawful = record { balance = balanced; accounts = kept.sums; shown = shown_is p s₀ h s kept; welfare = greatest }

  pub every_run : (h : List Event) (s : State) → Run p s₀ h s → Law p s₀ h s
  every_run h s r = lawful h s (kept_along h s r)
