-- The law of the open cuts: from the numbers of all entries to what the candidates hold.
use Rattle.std.proofs.Common.{◌≡◌, ℕ, zero, suc, ◌-◌, ◌<◌, ◌≤◌, leb, ◌≢◌, List, [], ◌∷◌, length, get_or, set, sym, refl, ap, ◌∙◌, ap₂, ⊎_elim, arith}
use Rattle.std.proofs.lemmas.List.{get_or-map, length-set, get_or-set_same, get_or-set_other, same_lists, get_or_default}
use Rattle.std.proofs.ByRecursion.{All-get_or}
use Rattle.std.proofs.lemmas.Bool.{cases_eq, cases_Bool, leb-false}
use Rattle.cuts.specs.Stages.{held, last_step, next_turn, one_less, turns, stage_cut, open_cuts}
use Rattle.cuts.specs.StageLaws.{Apart, Candidates, OpenCutsLaw}
use Rattle.cuts.proofs.Turns.{length-held}
use Rattle.cuts.proofs.OnlyCuts.{turn_in, holds, place_in}
use Rattle.cuts.proofs.Rounds.{gap_left, left_is}

apart_at : (ps : List ℕ) (i j : ℕ) → Apart ps → i < length ps → j < length ps → i ≢ j → get_or ps i 0 ≢ get_or ps j 0
apart_at [] i j h a b ne = absurd (omega arith)
apart_at (p ∷ ps) zero zero h a b ne = absurd (ne refl)
apart_at (p ∷ ps) zero (suc j) h a b ne = λ e. All-get_or (λ q. q ≢ p) ps j 0 (omega arith) h.0 (sym e)
apart_at (p ∷ ps) (suc i) zero h a b ne = All-get_or (λ q. q ≢ p) ps i 0 (omega arith) h.0
apart_at (p ∷ ps) (suc i) (suc j) h a b ne = apart_at ps i j h.1 (omega arith) (omega arith) (omega arith)

pub held_get : (ps ns : List ℕ) (k : ℕ) → k < length ps → get_or (held ps ns) k 0 ≡ get_or ns (get_or ps k 0) 0
held_get ps ns k l = get_or-map (λ p. get_or ns p 0) ps k 0 0 l

-- a turn, by what is held
held_turn : (ps ns : List ℕ) (t : ℕ) → Apart ps → 1 < get_or (held ps ns) t 0
    → held ps (one_less ns (get_or ps t 0)) ≡ set (held ps ns) t (get_or (held ps ns) t 0 - 1)
held_turn ps ns t apart more =
    let p = get_or ps t 0 in
    let l = turn_in ps ns t more in
    let inside = place_in ps ns t more in
    let qs = held ps ns in
    let v = get_or qs t 0 - 1 in
    let n : length (held ps (one_less ns p)) ≡ length (set qs t v) = length-held ps (one_less ns p) ∙ sym (length-set qs t v ∙ length-held ps ns) in
    same_lists _ _ n (λ k d h.
    let kl : k < length ps = omega (arith, length-held ps (one_less ns p)) in
    let to0 : get_or (held ps (one_less ns p)) k d ≡ get_or (held ps (one_less ns p)) k 0 = get_or_default (held ps (one_less ns p)) k d 0 h in
    let back : get_or (set qs t v) k 0 ≡ get_or (set qs t v) k d = get_or_default (set qs t v) k 0 d (omega arith) in
    to0 ∙ held_get ps (one_less ns p) k kl ∙ ⊎_elim
    (λ e.
    let x : get_or (one_less ns p) (get_or ps k 0) 0 ≡ get_or ns p 0 - 1 = ap (λ z. get_or (one_less ns p) (get_or ps z 0) 0) e ∙ get_or-set_same ns p (get_or ns p 0 - 1) 0 inside in
    let y : get_or (set qs t v) k 0 ≡ v = ap (λ z. get_or (set qs t v) z 0) e ∙ get_or-set_same qs t v 0 (omega (arith, length-held ps ns)) in
    x ∙ ap (λ z. z - 1) (holds ps ns t more) ∙ sym y)
    (λ ne.
    get_or-set_other ns p (get_or ps k 0) (get_or ns p 0 - 1) 0 (apart_at ps k t apart kl l ne)
    ∙ sym (held_get ps ns k kl) ∙ sym (get_or-set_other qs t k v 0 ne))
    (cases_eq k t)
    ∙ back)

left-held : (ps : List ℕ) (t : ℕ) (ns : List ℕ) (g : ℕ) → Apart ps → (turns last_step ps t ns g).left ≡ gap_left (held ps ns) t g
left-held ps t ns zero apart = refl
left-held ps t ns (suc g) apart =
    let qs = held ps ns in
    let x = get_or qs t 0 in
    ⊎_elim
    (λ e. rw e refl)
    (λ e.
    let more : 1 < x = leb-false x 1 e in
    let i = left-held ps (next_turn (length ps) t) (one_less ns (get_or ps t 0)) g apart in
    let n : length ps ≡ length qs = sym (length-held ps ns) in
    rw e (i ∙ ap₂ (λ z m. gap_left z (next_turn m t) g) (held_turn ps ns t apart more) n))
    (cases_Bool (leb x 1))

pub stage_left : (ps ns : List ℕ) (g : ℕ) → Candidates ps ns → (stage_cut last_step ps ns g).left ≡ g - open_cuts (held ps ns)
stage_left ps ns g c =
    left-held ps 0 ns g c.apart
    ∙ left_is (held ps ns) g (λ r l.
    let k : r < length ps = omega (arith, length-held ps ns) in
    omega (arith, held_get ps ns r k, All-get_or (λ p. 1 ≤ get_or ns p 0) ps r 0 k c.some))

pub open_cuts-law : (ps ns : List ℕ) (g : ℕ) → OpenCutsLaw ps ns g (stage_cut last_step ps ns g).left
open_cuts-law ps ns g c = omega (arith, stage_left ps ns g c)
