-- The turns of a stage, as the code takes them.
use Rattle.std.proofs.Common.{◌≡◌, ℕ, zero, suc, ◌-◌, ◌<◌, ◌≤◌, true, false, ltb, leb, List, map, length, get_or, sym, refl, ap, ◌∙◌, ⊎_elim, arith}
use Rattle.std.proofs.lemmas.List.{get_or-map, get_or_past, length-map, length-set}
use Rattle.std.proofs.lemmas.Bool.{cases_lt, cond_both}
use Rattle.std.proofs.lemmas.Bool.Decides.{nat_tests}
use Rattle.cuts.specs.Stages.{held, Rule, last_step, next_turn, one_less, Cut, turns}

module _ {C : Type 0} (place : C → ℕ) (xs : List C) where
  pub place_at : (t : ℕ) (x : C) → t < length xs → x ≡ get_or xs t x → get_or (map place xs) t 0 ≡ place x
  place_at t x h e = get_or-map place xs t x 0 h ∙ ap place (sym e)

  pub held_at : (ns : List ℕ) (t : ℕ) (x : C) → t < length xs → x ≡ get_or xs t x → get_or (held (map place xs) ns) t 0 ≡ get_or ns (place x) 0
  held_at ns t x h e =
      let l : t < length (map place xs) = simp length-map (omega arith) in
      get_or-map (λ p. get_or ns p 0) (map place xs) t 0 0 l ∙ ap (λ p. get_or ns p 0) (place_at t x h e)

  -- the same, by the place that was asked for
  pub held_by : (ns : List ℕ) (t : ℕ) (x : C) (p : ℕ) → t < length xs → x ≡ get_or xs t x → p ≡ place x → get_or (held (map place xs) ns) t 0 ≡ get_or ns p 0
  held_by ns t x p h e k = held_at ns t x h e ∙ ap (λ q. get_or ns q 0) (sym k)

pub length-held : (ps ns : List ℕ) → length (held ps ns) ≡ length ps
length-held ps ns = length-map ps _

pub held_past : (ps ns : List ℕ) (t : ℕ) → length ps ≤ t → get_or (held ps ns) t 0 ≡ 0
held_past ps ns t h = get_or_past (held ps ns) t 0 (omega (arith, length-held ps ns))

-- whoever has a step to lose is one of the candidates
pub turn_within : (ps ns : List ℕ) (t : ℕ) → ltb 1 (get_or (held ps ns) t 0) ≡ true → t < length ps
turn_within ps ns t h = ⊎_elim (λ l. l) (λ l. let p = held_past ps ns t l in let z : ◌≡◌ {A = ℕ} 0 1 = grind (arith, nat_tests) in absurd (omega arith)) (cases_lt t (length ps))

module _ (rule : Rule) (ps : List ℕ) (t : ℕ) (ns : List ℕ) where
  pub turns_over : (g : ℕ) → rule.over (held ps ns) t ≡ true → turns rule ps t ns g ≡ record { numbers = ns; left = g }
  turns_over zero h = refl
  turns_over (suc g) h = rw h refl

  pub turns_more : (g : ℕ) → 0 < g → rule.over (held ps ns) t ≡ false
      → turns rule ps t ns g ≡ turns rule ps (next_turn (length ps) (rule.loses (held ps ns) t)) (one_less ns (get_or ps (rule.loses (held ps ns) t) 0)) (g - 1)
  turns_more zero l h = absurd (omega arith)
  turns_more (suc g) l h = let e : suc g - 1 ≡ g = omega arith in rw (h, e) refl

-- the two ways of a turn under the rule of the last step
module _ (ps : List ℕ) (t : ℕ) (ns after : List ℕ) (g : ℕ) where
  pub cut_more : (u : ℕ) → 0 < g → true ≡ ltb 1 (get_or (held ps ns) t 0) → after ≡ one_less ns (get_or ps t 0) → u ≡ next_turn (length ps) t
      → turns last_step ps u after (g - 1) ≡ turns last_step ps t ns g
  cut_more u some h e f =
      let o : leb (get_or (held ps ns) t 0) 1 ≡ false = grind (arith, nat_tests) in
      rw (e, f) (sym (turns_more last_step ps t ns g some o))

  pub cut_over : false ≡ ltb 1 (get_or (held ps ns) t 0) → after ≡ ns → turns last_step ps t ns g ≡ record { numbers = after; left = g }
  cut_over h e =
      let o : leb (get_or (held ps ns) t 0) 1 ≡ true = grind (arith, nat_tests) in
      rw e (turns_over last_step ps t ns g o)

pub length-turns : (rule : Rule) (ps : List ℕ) (t : ℕ) (ns : List ℕ) (g : ℕ) → length (turns rule ps t ns g).numbers ≡ length ns
length-turns rule ps t ns zero = refl
length-turns rule ps t ns (suc g) =
    let p = get_or ps (rule.loses (held ps ns) t) 0 in
    cond_both (rule.over (held ps ns) t) _ _ (λ (c : Cut). length c.numbers ≡ length ns)
    (λ _. refl)
    (λ _. length-turns rule ps (next_turn (length ps) (rule.loses (held ps ns) t)) (one_less ns p) g ∙ length-set ns p (get_or ns p 0 - 1))
