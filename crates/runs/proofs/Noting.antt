-- Noting what is out, interval by interval.
use Rattle.std.proofs.Common.{◌≡◌, ℕ, suc, ◌-◌, ◌<◌, ◌≤◌, Bool, true, false, cond, ◌&&◌, List, [], ◌∷◌, ◌++◌, length, get_or, ℤ, pos, negsuc, nat_abs, Some, None, Ok, Err, sym, refl, ap, ◌∙◌, subst, arith}
use native.Mathlib.Decide.{ℕ_discrete}
use borrow.Author.Differences.{ints}
use Rattle.std.proofs.lemmas.List.{get_or-set_same, get_or-set_other, get_or-take}
use Rattle.std.proofs.lemmas.List.Elements.{All-from_get_or}
use Rattle.std.proofs.lemmas.List.Folds.{list_any_none}
use Rattle.std.proofs.lemmas.Bool.{and_from, cond-true}
use Rattle.ledger.specs.declared.account.Account.{Account}
use Rattle.market.specs.declared.records.Mark.TheVariants.{Noted}
use Rattle.market.specs.declared.records.Interval.{Interval}
use Rattle.market.specs.Blank.{fresh}
use Rattle.market.specs.Bounds.{same, in_day}
use Rattle.market.specs.First.{tests}
use Rattle.market.proofs.Facts.{between_two, same_yes}
use Rattle.entries.specs.Settles.{WorkLengths}
use Rattle.engine.specs.declared.call.Call.TheVariants.{Note}
use Rattle.engine.specs.declared.call.Outcome.{Outcome}
use Rattle.engine.specs.declared.call.Outcome.TheVariants.{Accepted, Refused}
use Rattle.engine.specs.declared.refusal.Refusal.TheVariants.{NotOut}
use Rattle.engine.specs.declared.day.Day.{Day}
use Rattle.engine.specs.Days.{records, record_of, shown}
use Rattle.engine.specs.Marks.{is_out, any_out, shows_out, with_mark}
use Rattle.engine.specs.Steps.{Paper, state_of, with_steps, Takes, Notes}
use Rattle.engine.proofs.Opens.{count_records}
use Rattle.engine.proofs.Shown.{shown_some}
use Rattle.runs.specs.Runs.{Event, event_of, Run, start, next}
use Rattle.runs.specs.Plays.{note_of, note_if_out, notes, NotedAt, NotedTo, out_steps}
use Rattle.runs.proofs.Telling.{run_on}

-- ---- what is out

-- a record that the day shows out has its remainder out
pub out_is : (d : Day) (i : ℤ) (x : Interval) → Some x ≡ shown d i → is_out x.mark ≡ true → Some x.remainder ≡ out_steps d i
out_is d i x e out =
    let s = shown_some d i x e in
    let there : is_out (record_of d i).mark ≡ true = ap (λ (y : Interval). is_out y.mark) (sym s.1) ∙ out in
    ap (λ (y : Interval). Some y.remainder) s.1 ∙ sym (cond-true _ _ _ (and_from (in_day d.count i) (is_out (record_of d i).mark) s.0 there))

-- where steps are out, the record is out with them
out_says : (b : Bool) (y z : ℤ) → Some z ≡ cond b (Some y) None → (b ≡ true) × (y ≡ z)
out_says true y z e = (refl, cc)
out_says false y z e = let n : ◌≡◌ {A = ℕ} 0 1 = cc in absurd (omega arith)

-- and where none are, it is not out
none_says : (b : Bool) (y : ℤ) → cond b (Some y) None ≡ None → b ≡ false
none_says true y e = let n : ◌≡◌ {A = ℕ} 0 1 = cc in absurd (omega arith)
none_says false y e = refl

-- ---- one interval

module _ (d d' : Day) (i : ℕ) (in-it : in_day d.count (pos i) ≡ true) where
  from : 1 ≤ i
  from = let b = between_two (pos 1) (pos i) (pos d.count) in-it in omega (arith, ints)

  inside : i - 1 < length d.intervals
  inside = let b = between_two (pos 1) (pos i) (pos d.count) in-it in omega (arith, ints, d.sound.2, d.sound.3, from)

  -- what the outcome of noting z steps says, where the test of the remainder is b
  abbrev Said : ℤ → List ℕ → List Account → Bool → Outcome → Type 0
  Said z s m b (Accepted y) = (with_steps (tests ((b, NotOut) ∷ [])) z ≡ Ok y) × Notes (pos i) (state_of d s m) (state_of d' s m)
  Said z s m b (Refused f) = with_steps (tests ((b, NotOut) ∷ [])) z ≡ Err f

  heard : (z : ℤ) (p : Paper) (w : WorkLengths) (s : List ℕ) (m : List Account) (o : Outcome)
      → Takes p w (state_of d s m) (Note (pos i) z) o (state_of d' s m) → Said z s m (shows_out d (pos i) z) o
  heard z p w s m (Accepted y) t = t
  heard z p w s m (Refused f) t = t.0

  noted : (z : ℤ) (s : List ℕ) (m : List Account) (o : Outcome) → Said z s m true o → (o ≡ Accepted z) × Notes (pos i) (state_of d s m) (state_of d' s m)
  noted z s m (Accepted y) t = let same_steps : y ≡ z = cc in (ap Accepted same_steps, t.1)
  noted z s m (Refused f) t = cc

  -- a remainder that is out is noted without refusal
  accepted : (z : ℤ) → is_out (record_of d (pos i)).mark ≡ true → (record_of d (pos i)).remainder ≡ z → (p : Paper) (w : WorkLengths) (s : List ℕ) (m : List Account) (o : Outcome)
      → Takes p w (state_of d s m) (Note (pos i) z) o (state_of d' s m) → (o ≡ Accepted z) × Notes (pos i) (state_of d s m) (state_of d' s m)
  accepted z out e p w s m o t =
      let x = record_of d (pos i) in
      let shows : shows_out d (pos i) z ≡ true = and_from (in_day d.count (pos i)) (is_out x.mark && same x.remainder z) in-it (and_from (is_out x.mark) (same x.remainder z) out (same_yes x.remainder z e)) in
      noted z s m o (subst (λ (b : Bool). Said z s m b o) shows (heard z p w s m o t))

  -- the record of the interval, noted
  noted_here : Notes (pos i) (state_of d [] []) (state_of d' [] []) → record_of d' (pos i) ≡ with_mark (record_of d (pos i)) Noted
  noted_here n =
      ap (λ (xs : List Interval). get_or xs (i - 1) fresh) n.day.intervals ∙ get_or-set_same d.intervals (i - 1) (with_mark (record_of d (pos i)) Noted) fresh inside

  -- and those of the others, which stay
  noted_there : Notes (pos i) (state_of d [] []) (state_of d' [] []) → (j : ℕ) → 1 ≤ j → (i ≡ j → ⊥) → record_of d' (pos j) ≡ record_of d (pos j)
  noted_there n j lo ne =
      ap (λ (xs : List Interval). get_or xs (j - 1) fresh) n.day.intervals
      ∙ get_or-set_other d.intervals (i - 1) (j - 1) (with_mark (record_of d (pos i)) Noted) fresh (λ q. ne (omega (arith, lo, from)))

  none : WorkLengths
  none = record { numbers = 0; orders = 0; blocks = 0 }

  -- noting the steps that are out
  some_noted : (z : ℤ) (o : Outcome) → Paper → Some z ≡ out_steps d (pos i)
      → ((p : Paper) (w : WorkLengths) (s : List ℕ) (m : List Account) → Takes p w (state_of d s m) (Note (pos i) z) o (state_of d' s m)) → NotedAt d i d'
  some_noted z o any e step =
      let x = record_of d (pos i) in
      let says = out_says (in_day d.count (pos i) && is_out x.mark) x.remainder z e in
      let out : is_out x.mark ≡ true = ap (λ (b : Bool). b && is_out x.mark) (sym in-it) ∙ says.0 in
      let known = accepted z out says.1 any none [] [] o (step any none [] []) in
      let n = known.1 in
      let told : note_if_out d i ≡ note_of d i ∷ [] = cond-true _ _ _ out in
      let event : event_of (Note (pos i) z) o ≡ note_of d i = ap (event_of (Note (pos i) z)) known.0 ∙ ap (λ (y : ℤ). event_of (Note (pos i) y) (Accepted y)) (sym says.1) in
      record {
        run = λ p s m. subst (λ (h : List Event). Run p (state_of d s m) h (state_of d' s m)) (ap (λ (v : Event). v ∷ []) event ∙ sym told) (next start (record { work = none; takes = step p none s m }));
        count = n.day.count;
        done = ap (λ (y : Interval). is_out y.mark) (noted_here n);
        others = noted_there n;
      }

-- where nothing is out there is nothing to note
none_noted : (d : Day) (i : ℕ) → in_day d.count (pos i) ≡ true → out_steps d (pos i) ≡ None → NotedAt d i d
none_noted d i in-it e =
    let x = record_of d (pos i) in
    let out : is_out x.mark ≡ false = ap (λ (b : Bool). b && is_out x.mark) (sym in-it) ∙ none_says (in_day d.count (pos i) && is_out x.mark) x.remainder e in
    record {
      run = λ p s m. subst (λ (b : Bool). Run p (state_of d s m) (cond b (note_of d i ∷ []) []) (state_of d s m)) (sym out) start;
      count = refl;
      done = out;
      others = λ j lo ne. refl;
    }

never_below : (n k : ℕ) → in_day n (negsuc k) ≡ true → ⊥
never_below n k e = let b = between_two (pos 1) (negsuc k) (pos n) e in omega (arith, ints)

-- the same of the numbers of intervals as calls take them
pub noted_some : (d d' : Day) (i z : ℤ) (o : Outcome) → Paper → in_day d.count i ≡ true → Some z ≡ out_steps d i
    → ((p : Paper) (w : WorkLengths) (s : List ℕ) (m : List Account) → Takes p w (state_of d s m) (Note i z) o (state_of d' s m)) → NotedAt d (nat_abs i) d'
noted_some d d' (pos i) z o any in-it e step = some_noted d d' i in-it z o any e step
noted_some d d' (negsuc k) z o any in-it e step = absurd (never_below d.count k in-it)

pub noted_none : (d : Day) (i : ℤ) → in_day d.count i ≡ true → out_steps d i ≡ None → NotedAt d (nat_abs i) d
noted_none d (pos i) in-it e = none_noted d i in-it e
noted_none d (negsuc k) in-it e = absurd (never_below d.count k in-it)

-- ---- interval by interval

pub noted_first : (d : Day) → NotedTo d 0 d
noted_first d = record { run = λ p s m. start; count = refl; done = λ i lo hi. absurd (omega arith); left = λ i lt. refl }

-- the notes of an interval go by its record alone
abbrev notes_by : ℕ → Interval → List Event
notes_by i x = cond (is_out x.mark) (event_of (Note (pos i) x.remainder) (Accepted x.remainder) ∷ []) []

module _ (d d₁ d₂ : Day) (k : ℕ) (before : NotedTo d k d₁) (one : NotedAt d₁ (suc k) d₂) where
  done_at : (i : ℕ) → 1 ≤ i → i ≤ suc k → Dec (suc k ≡ i) → is_out (record_of d₂ (pos i)).mark ≡ false
  done_at i lo hi (yes e) = subst (λ (j : ℕ). is_out (record_of d₂ (pos j)).mark ≡ false) e one.done
  done_at i lo hi (no ne) = ap (λ (y : Interval). is_out y.mark) (one.others i lo ne) ∙ before.done i lo (omega arith)

  pub noted_next : NotedTo d (suc k) d₂
  noted_next = record {
    run = λ p s m.
        let same_note : note_if_out d₁ (suc k) ≡ note_if_out d (suc k) = ap (notes_by (suc k)) (before.left (suc k) (omega arith)) in
        subst (λ (h : List Event). Run p (state_of d s m) (h ++ notes d k) (state_of d₂ s m)) same_note (run_on p (state_of d s m) (state_of d₁ s m) (state_of d₂ s m) (notes d k) (note_if_out d₁ (suc k)) (before.run p s m) (one.run p s m));
    count = one.count ∙ before.count;
    done = λ i lo hi. done_at i lo hi (ℕ_discrete (suc k) i);
    left = λ i lt. one.others i (omega arith) (λ e. omega arith) ∙ before.left i (omega arith);
  }

-- where the remainders of all intervals are noted, none is out
pub none_out : (d d' : Day) → NotedTo d d.count d' → any_out d' ≡ false
none_out d d' n =
    let long = count_records d' in
    list_any_none (λ (x : Interval). is_out x.mark) (records d')
    (All-from_get_or (λ (x : Interval). is_out x.mark ≡ false) (records d') fresh
    (λ k lt.
    let at : suc k - 1 ≡ k = omega arith in
    ap (λ (x : Interval). is_out x.mark) (get_or-take d'.count d'.intervals k fresh (omega (arith, long)) ∙ ap (λ (j : ℕ). get_or d'.intervals j fresh) (sym at))
    ∙ n.done (suc k) (omega arith) (omega (arith, long, n.count))))
