-- Judging a paper, and playing calls on it.
use Rattle.std.proofs.Common.{◌≡◌, ℕ, ◌-◌, true, false, leb, List, [], ◌∷◌, ◌++◌, length, get_or, take, drop, pos, Ok, sym, ap, ◌∙◌, subst, ⊎_elim, arith}
use Rattle.std.specs.List.{list_all}
use Rattle.std.proofs.lemmas.List.{get_or-take}
use Rattle.std.proofs.lemmas.List.Folds.{list_all_at}
use Rattle.std.proofs.lemmas.Bool.{both_ways, cases_Bool}
use Rattle.ledger.specs.declared.account.Account.{Account}
use Rattle.market.specs.declared.records.Order.{Order}
use Rattle.market.specs.declared.records.Block.{Block}
use Rattle.market.specs.declared.records.Interval.{Interval}
use Rattle.market.specs.Blank.{fresh}
use Rattle.market.specs.declared.refusal.Refusal.TheVariants.{Short}
use Rattle.market.proofs.Facts.{tests_out}
use Rattle.engine.specs.declared.refusal.Refusal.TheVariants.{Market, NotUnsettled}
use Rattle.verdict.specs.Passes.{LawfulBook, Passes}
use Rattle.engine.specs.declared.book.Closed.{Closed}
use Rattle.engine.specs.declared.book.Counts.{Counts}
use Rattle.engine.specs.declared.book.Passed.{Passed}
use Rattle.engine.specs.declared.call.Call.{Call}
use Rattle.engine.specs.declared.call.Outcome.{Outcome}
use Rattle.engine.specs.declared.day.Day.{Day}
use Rattle.engine.specs.Days.{records, record_of}
use Rattle.engine.specs.Judging.{PaperPasses}
use Rattle.engine.specs.Marks.{is_unsettled, any_out}
use Rattle.engine.specs.Steps.{Paper, paper_of, state_of}
use Rattle.engine.proofs.Opens.{count_records}
use Rattle.runs.specs.Runs.{Run, PassesOn, NothingSettled}
use Rattle.runs.specs.Plays.{told, notes, NotedTo, Plays, nothing_settled, playable}
use Rattle.runs.proofs.Lawful.{every_run, unsettled_is}
use Rattle.runs.proofs.Telling.{run_on}

-- where every record is unsettled, nothing is settled
nothing_from : (d : Day) → nothing_settled d ≡ true → NothingSettled d
nothing_from d e i lo hi =
    let test = λ (x : Interval). is_unsettled x.mark in
    let long = count_records d in
    let here : get_or (records d) (i - 1) fresh ≡ record_of d (pos i) = get_or-take d.count d.intervals (i - 1) fresh (omega arith) in
    let settled-none = λ (f : test (record_of d (pos i)) ≡ false). both_ways (list_all test (records d)) (list_all_at test (records d) (i - 1) fresh (omega arith) (ap test here ∙ f)) e in
    unsettled_is (record_of d (pos i)).mark (⊎_elim (λ t. t) (λ f. absurd (settled-none f)) (cases_Bool (test (record_of d (pos i)))))

-- a paper that judging has passed passes on its day
pub passes_from : (c : Closed) (b : Passed) (d : Day) (os : List Order) (fs : List ℕ) (bs : List Block) (gs : List ℕ) → b.counts ≡ c.counts → PaperPasses c d os fs bs gs → PassesOn (paper_of b os fs bs gs) d
passes_from c b d os fs bs gs e h = record {
  lawful = subst (λ (k : Counts). LawfulBook d.count (take k.orders os) (take k.blocks bs)) (sym e) h.lawful;
  rules = subst (λ (k : Counts). Passes (records d) (take k.orders os) fs (take k.blocks bs) gs) (sym e) h.rules;
}

-- calls that were carried out on it, and the notes after them, are played
pub played : (p : Paper) (d d₁ d₂ : Day) (s s' : List ℕ) (m m' : List Account) (cs : List Call) (outs outs' : List Outcome)
    → PassesOn p d → nothing_settled d ≡ true → Run p (state_of d s m) (told cs outs' (length cs)) (state_of d₁ s' m') → NotedTo d₁ d₁.count d₂ → any_out d₂ ≡ false
    → drop (length cs) outs' ≡ drop (length cs) outs → Plays p (state_of d s m) cs outs outs' (state_of d₂ s' m')
played p d d₁ d₂ s s' m m' cs outs outs' ok none run noted out rest =
    let law = every_run p (state_of d s m) ok (nothing_from d none) in
    let whole = run_on p (state_of d s m) (state_of d₁ s' m') (state_of d₂ s' m') (told cs outs' (length cs)) (notes d₁ d₁.count) run (noted.run p s' m') in
    record {
      between = state_of d₁ s' m';
      run = run;
      whole = whole;
      law = law (notes d₁ d₁.count ++ told cs outs' (length cs)) (state_of d₂ s' m') whole;
      every = law;
      none_out = out;
      rest = rest;
    }

-- what may be played has nothing settled
pub nothing_in : (d : Day) (n k : ℕ) → playable d n k ≡ Ok tt → nothing_settled d ≡ true
nothing_in d n k e = (tests_out ((nothing_settled d, NotUnsettled) ∷ (leb n k, Market Short) ∷ []) e).0
