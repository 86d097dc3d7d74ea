-- What settling has just handed over can be noted: the day shows it out.
use Rattle.std.proofs.Common.{◌≡◌, ℕ, ◌<◌, Bool, true, ◌&&◌, List, [], ◌∷◌, length, get_or, ℤ, pos, Ok, Err, Result, refl, ap, ◌∙◌, subst, arith}
use borrow.Author.Differences.{ints, abs_is}
use Rattle.std.specs.Result.{result_and}
use Rattle.std.proofs.lemmas.List.{get_or-set_same}
use Rattle.std.proofs.lemmas.Bool.{and_from}
use Rattle.market.specs.declared.records.Interval.{Interval}
use Rattle.market.specs.declared.records.Mark.TheVariants.{Out}
use Rattle.market.specs.Blank.{fresh}
use Rattle.market.specs.Bounds.{same, in_day}
use Rattle.market.specs.First.{tests}
use Rattle.market.proofs.Facts.{between_two, same_yes}
use Rattle.entries.specs.Settles.{WorkLengths}
use Rattle.engine.specs.declared.call.Call.TheVariants.{Settle, Note}
use Rattle.engine.specs.declared.call.Outcome.TheVariants.{Accepted, Refused}
use Rattle.engine.specs.declared.refusal.Refusal.{Refusal}
use Rattle.engine.specs.declared.refusal.Refusal.TheVariants.{NotOut}
use Rattle.engine.specs.Days.{place_of, record_of, with_state}
use Rattle.engine.specs.Marks.{is_out, shows_out}
use Rattle.engine.specs.Settling.{ready}
use Rattle.engine.specs.Steps.{Paper, State, with_steps, Takes}
use Rattle.engine.proofs.Settlings.{ready_in}

-- an answer that is no refusal: the check before it refused nothing
first_ok : (a : Result Unit Refusal) (b : Result ℤ Refusal) (z : ℤ) → result_and a b ≡ Ok z → a ≡ Ok tt
first_ok (Ok u) b z e = refl
first_ok (Err f) b z e = let n : ◌≡◌ {A = ℕ} 0 1 = cc in absurd (omega arith)

-- after an accepted settle the day shows the interval out with what it handed over
pub settled_shows : (p : Paper) (w : WorkLengths) (s s' : State) (i z : ℤ) → Takes p w s (Settle i) (Accepted z) s' → shows_out s'.day i z ≡ true
settled_shows p w s s' i z (ok, m) =
    let d = s.day in
    let d' = s'.day in
    let within : in_day d.count i ≡ true = ready_in p.book d p.orders p.blocks i (first_ok (ready p.book d p.orders p.blocks i) _ z ok) in
    let b = between_two (pos 1) i (pos d.count) within in
    let most = d.sound.2 in
    let all = d.sound.3 in
    let lt : place_of i < length d.intervals = omega (arith, ints, abs_is i) in
    let x = with_state (record_of d i) Out z in
    let there : record_of d' i ≡ x = ap (λ (l : List Interval). get_or l (place_of i) fresh) m.day.intervals ∙ get_or-set_same d.intervals (place_of i) x fresh lt in
    let inside : in_day d'.count i ≡ true = ap (λ (n : ℕ). in_day n i) m.day.count ∙ within in
    let out : is_out (record_of d' i).mark ≡ true = ap (λ (r : Interval). is_out r.mark) there in
    let amount : same (record_of d' i).remainder z ≡ true = same_yes (record_of d' i).remainder z (ap (λ (r : Interval). r.remainder) there) in
    and_from (in_day d'.count i) (is_out (record_of d' i).mark && same (record_of d' i).remainder z) inside (and_from (is_out (record_of d' i).mark) (same (record_of d' i).remainder z) out amount)

-- what a day shows out is noted without refusal
pub never_refused : (p : Paper) (w : WorkLengths) (s s' : State) (i z : ℤ) (e : Refusal) → shows_out s.day i z ≡ true → Takes p w s (Note i z) (Refused e) s' → ⊥
never_refused p w s s' i z e shows t =
    let k = subst (λ (x : Bool). with_steps (tests ((x, NotOut) ∷ [])) z ≡ Err e) shows t.0 in
    let n : ◌≡◌ {A = ℕ} 0 1 = cc in absurd (omega arith)
