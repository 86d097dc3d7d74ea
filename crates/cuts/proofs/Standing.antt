-- The candidates of a stage: each is an eligible entry, and no two are at one place.
use Rattle.std.proofs.Common.{◌≡◌, ℕ, suc, ◌+◌, ◌<◌, Bool, true, ◌≢◌, List, [], ◌∷◌, map, length, get_or, fold, sym, refl, ◌∙◌, subst, arith}
use Rattle.std.specs.List.{AllByRecursion as Every}
use Rattle.std.proofs.ByRecursion.{All-map}
use Rattle.cuts.specs.declared.gather.Stage.{Stage}
use Rattle.market.specs.Kinds.{Kind}
use Rattle.cuts.specs.Rounding.{nearest}
use Rattle.cuts.specs.Ordered.{placed, ranked}
use Rattle.cuts.specs.Eligible.{eligible, candidates}
use Rattle.cuts.specs.Settled.{ranked_places}
use Rattle.cuts.specs.StageLaws.{Apart}
use Rattle.cuts.proofs.Place.{by_bool}
use Rattle.cuts.proofs.Ranked.{all_placed}

-- an eligible entry stands at p
pub record EligibleAt {X : Type 0} (kind : Kind X) (s : Stage) (xs : List X) (fs : List ℕ) (p : ℕ) : Type 0 where
  pub entry : X
  pub inside : p < length xs
  pub filled : p < length fs
  pub there : (d : X) → get_or xs p d ≡ entry
  pub passes : eligible kind s entry (get_or fs p 0) ≡ true

module _ {X C : Type 0} (kind : Kind X) (stands : X → ℕ → ℕ → C) (s : Stage) where
  -- what holds of every eligible entry's candidate holds of all candidates
  pub all_candidates : (P : C → Type 0) (xs : List X) (fs : List ℕ) (k : ℕ)
      → ((j : ℕ) (e : EligibleAt kind s xs fs j) → P (stands e.entry (nearest (get_or fs j 0)) (k + j)))
      → Every P (candidates kind stands s xs fs k)
  all_candidates P [] fs k h = tt
  all_candidates P (x ∷ xs) [] k h = tt
  all_candidates P (x ∷ xs) (f ∷ fs) k h =
      let i : Every P (candidates kind stands s xs fs (k + 1)) = all_candidates P xs fs (k + 1) (λ j e.
      let q : k + 1 + j ≡ k + suc j = omega arith in
      subst (λ n. P (stands e.entry (nearest (get_or fs j 0)) n)) (sym q)
      (h (suc j) (record { entry = e.entry; inside = omega (arith, e.inside); filled = omega (arith, e.filled); there = λ d. e.there d; passes = e.passes }))) in
      by_bool (eligible kind s x f)
      (λ e. rw e
      (let z : k + 0 ≡ k = omega arith in
      (subst (λ n. P (stands x (nearest f) n)) z (h 0 (record { entry = x; inside = omega arith; filled = omega arith; there = λ d. refl; passes = e })), i)))
      (λ e. rw e i)

-- and of all in rank order
pub all_ranked : {C : Type 0} (before : C → C → Bool) (P : C → Type 0) (acc cs : List C) → Every P acc → Every P cs → Every P (fold (placed before) acc cs)
all_ranked before P acc [] a h = a
all_ranked before P acc (c ∷ cs) a h = all_ranked before P (placed before acc c) cs (all_placed before P acc c h.0 a) h.1

module _ {C : Type 0} (before : C → C → Bool) (place : C → ℕ) where
  -- no two at one place
  abbrev pub Alone : List C → Type 0
  Alone [] = Unit {0}
  Alone (c ∷ cs) = Every (λ d. place d ≢ place c) cs × Alone cs

  alone_placed : (cs : List C) (c : C) → Alone cs → Every (λ d. place d ≢ place c) cs → Alone (placed before cs c)
  alone_placed [] c a h = (tt, tt)
  alone_placed (x ∷ cs) c a h = by_bool (before c x)
      (λ e. rw e (h, a))
      (λ e. rw e (all_placed before (λ d. place d ≢ place x) cs c (λ q. h.0 (sym q)) a.0, alone_placed cs c a.1 h.1))

  pub alone_ranked : (acc cs : List C) → Alone acc → Alone cs → Every (λ c. Every (λ d. place d ≢ place c) acc) cs → Alone (fold (placed before) acc cs)
  alone_ranked acc [] a b h = a
  alone_ranked acc (c ∷ cs) a b h = alone_ranked (placed before acc c) cs (alone_placed acc c a h.0) b.1 (joined cs b.0 h.1)
    where
      joined : (ds : List C) → Every (λ d. place d ≢ place c) ds → Every (λ d. Every (λ e. place e ≢ place d) acc) ds → Every (λ d. Every (λ e. place e ≢ place d) (placed before acc c)) ds
      joined [] u v = tt
      joined (d ∷ ds) u v = (all_placed before (λ e. place e ≢ place d) acc c (λ q. u.0 (sym q)) v.0, joined ds u.1 v.1)

  pub alone_apart : (cs : List C) → Alone cs → Apart (map place cs)
  alone_apart [] a = tt
  alone_apart (c ∷ cs) a = (All-map (λ q. q ≢ place c) place cs a.0, alone_apart cs a.1)

-- the places of a stage's candidates, in rank order
module _ {X C : Type 0} (kind : Kind X) (stands : X → ℕ → ℕ → C) (before : C → C → Bool) (place : C → ℕ) (at : (x : X) (n k : ℕ) → place (stands x n k) ≡ k) (s : Stage) where
  pub places_eligible : (xs : List X) (fs : List ℕ) → Every (EligibleAt kind s xs fs) (ranked_places kind stands before place xs fs s)
  places_eligible xs fs =
      let P : C → Type 0 = λ c. EligibleAt kind s xs fs (place c) in
      let all : Every P (candidates kind stands s xs fs 0) = all_candidates kind stands s P xs fs 0 (λ j e.
      let q : j ≡ place (stands e.entry (nearest (get_or fs j 0)) (0 + j)) = sym (at e.entry (nearest (get_or fs j 0)) (0 + j) ∙ omega arith) in
      subst (EligibleAt kind s xs fs) q e) in
      All-map (EligibleAt kind s xs fs) place (ranked before (candidates kind stands s xs fs 0)) (all_ranked before P [] (candidates kind stands s xs fs 0) tt all)

  alone_candidates : (xs : List X) (fs : List ℕ) (k : ℕ) → Alone before place (candidates kind stands s xs fs k)
  alone_candidates [] fs k = tt
  alone_candidates (x ∷ xs) [] k = tt
  alone_candidates (x ∷ xs) (f ∷ fs) k =
      let i = alone_candidates xs fs (k + 1) in
      by_bool (eligible kind s x f)
      (λ e. rw e (
        all_candidates kind stands s (λ d. place d ≢ place (stands x (nearest f) k)) xs fs (k + 1) (λ j y q. omega (arith, at y.entry (nearest (get_or fs j 0)) (k + 1 + j), at x (nearest f) k)),
        i,
      ))
      (λ e. rw e i)

  all_none : (cs : List C) → Every (λ c. Every (λ d. place d ≢ place c) []) cs
  all_none [] = tt
  all_none (c ∷ cs) = (tt, all_none cs)

  pub places_apart : (xs : List X) (fs : List ℕ) → Apart (ranked_places kind stands before place xs fs s)
  places_apart xs fs =
      alone_apart before place (ranked before (candidates kind stands s xs fs 0))
      (alone_ranked before place [] (candidates kind stands s xs fs 0) tt (alone_candidates xs fs 0) (all_none (candidates kind stands s xs fs 0)))
