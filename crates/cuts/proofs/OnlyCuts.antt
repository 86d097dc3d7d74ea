-- The turns of a stage take steps from its candidates, and do nothing else.
use Rattle.std.proofs.Common.{◌≡◌, ℕ, zero, suc, ◌+◌, ◌-◌, ◌<◌, ◌≤◌, leb, ◌≢◌, List, length, get_or, sum, sym, refl, ◌∙◌, ⊎_elim, arith}
use Rattle.std.proofs.lemmas.List.{get_or-map, get_or_past, get_or-set_same, get_or-set_other}
use Rattle.std.proofs.ByRecursion.{All-get_or}
use Rattle.std.proofs.lemmas.List.Sums.{sum_by-set}
use Rattle.std.proofs.lemmas.Bool.{cases_lt, cases_eq, leb-false, cond_both}
use Rattle.cuts.specs.Stages.{held, last_step, next_turn, one_less, Cut, turns}
use Rattle.cuts.specs.StageLaws.{OnlyCuts}
use Rattle.cuts.proofs.Turns.{held_past}

-- whoever has a step to lose stands at a place of the numbers
module _ (ps ns : List ℕ) (t : ℕ) (more : 1 < get_or (held ps ns) t 0) where
  pub turn_in : t < length ps
  turn_in = ⊎_elim (λ l. l) (λ l. absurd (omega (arith, held_past ps ns t l))) (cases_lt t (length ps))

  pub holds : get_or ns (get_or ps t 0) 0 ≡ get_or (held ps ns) t 0
  holds = sym (get_or-map (λ p. get_or ns p 0) ps t 0 0 turn_in)

  pub place_in : get_or ps t 0 < length ns
  place_in = ⊎_elim (λ l. l) (λ l. absurd (omega (arith, holds, get_or_past ns (get_or ps t 0) 0 l))) (cases_lt (get_or ps t 0) (length ns))

-- one step less at p
module _ (ns : List ℕ) (p : ℕ) (inside : p < length ns) (more : 1 < get_or ns p 0) where
  less_sum : sum (one_less ns p) + 1 ≡ sum ns
  less_sum = omega (arith, sum_by-set (λ x. x) ns p (get_or ns p 0 - 1) 0 inside)

  less_same : get_or (one_less ns p) p 0 ≡ get_or ns p 0 - 1
  less_same = get_or-set_same ns p (get_or ns p 0 - 1) 0 inside

  less_other : (k : ℕ) → k ≢ p → get_or (one_less ns p) k 0 ≡ get_or ns k 0
  less_other k ne = get_or-set_other ns p k (get_or ns p 0 - 1) 0 ne

  less_fewer : (k : ℕ) → get_or (one_less ns p) k 0 ≤ get_or ns k 0
  less_fewer k = ⊎_elim (λ e. rw e (omega (arith, less_same))) (λ ne. omega (arith, less_other k ne)) (cases_eq k p)

  less_least : (k : ℕ) → 1 ≤ get_or ns k 0 → 1 ≤ get_or (one_less ns p) k 0
  less_least k h = ⊎_elim (λ e. rw e (omega (arith, less_same))) (λ ne. omega (arith, less_other k ne)) (cases_eq k p)

none_cut : (ps ns : List ℕ) (gap : ℕ) → OnlyCuts ps ns gap ns gap
none_cut ps ns gap = record { within = omega arith; lost = omega arith; fewer = λ k. omega arith; least = λ k h. h; others = λ k h. refl }

pub only_cuts : (ps : List ℕ) (t : ℕ) (ns : List ℕ) (gap : ℕ) → OnlyCuts ps ns gap (turns last_step ps t ns gap).numbers (turns last_step ps t ns gap).left
only_cuts ps t ns zero = none_cut ps ns 0
only_cuts ps t ns (suc gap) =
    cond_both (leb (get_or (held ps ns) t 0) 1) _ _ (λ (c : Cut). OnlyCuts ps ns (suc gap) c.numbers c.left)
    (λ _. none_cut ps ns (suc gap))
    (λ e.
    let more : 1 < get_or (held ps ns) t 0 = leb-false (get_or (held ps ns) t 0) 1 e in
    let p = get_or ps t 0 in
    let inside = place_in ps ns t more in
    let some : 1 < get_or ns p 0 = omega (arith, holds ps ns t more) in
    let i = only_cuts ps (next_turn (length ps) t) (one_less ns p) gap in
    record {
      within = omega (arith, i.within);
      lost = omega (arith, i.within, i.lost, less_sum ns p inside some);
      fewer = λ k. omega (arith, i.fewer k, less_fewer ns p inside some k);
      least = λ k h. i.least k (less_least ns p inside some k h);
      others = λ k h. i.others k h ∙ less_other ns p inside some k (λ q. All-get_or (λ x. x ≢ k) ps t 0 (turn_in ps ns t more) h (sym q));
    })
