-- The two stages of a kind of entry, and what they take from sells less buys.
use Rattle.std.proofs.Common.{◌≡◌, ℕ, zero, suc, ◌+◌, ◌-◌, ◌<◌, ◌≤◌, true, false, ltb, leb, ◌≢◌, List, [], ◌∷◌, length, get_or, ℤ, pos, negsuc, ◌+ℤ◌, sum, sym, refl, ap, ◌∙◌, ap₂, arith}
use borrow.Author.Differences.{ints}
use Rattle.market.specs.declared.records.Side.{Side}
use Rattle.market.specs.declared.records.Side.TheVariants.{Sell, Buy}
use Rattle.std.specs.List.{AllByRecursion as Every}
use Rattle.std.proofs.ByRecursion.{All-weaker, All-get_or}
use Rattle.std.proofs.lemmas.List.{same_lists, get_or_default}
use Rattle.std.proofs.lemmas.Bool.{and_parts, ltb-true, leb-false, cond_both, cond-true, both_ways, not-true}
use Rattle.cuts.specs.declared.gather.Filled.{Filled}
use Rattle.cuts.specs.declared.gather.Filled.TheVariants.{Partly, Full}
use Rattle.market.specs.Kinds.{Kind}
use Rattle.cuts.specs.Rounding.{nearest}
use Rattle.market.specs.Bounds.{full}
use Rattle.cuts.specs.Eligible.{cuts_side, filled_so, cut_here, holds_some}
use Rattle.market.specs.Signed.{signed}
use Rattle.cuts.specs.Numbers.{number, rounded_numbers, net}
use Rattle.cuts.specs.Stages.{held, last_step, next_turn, one_less, Cut, turns, stage_cut, open_cuts}
use Rattle.cuts.specs.StageLaws.{OnlyCuts, Apart, Candidates}
use Rattle.cuts.specs.Settled.{stage_of, two_stages}
use Rattle.cuts.specs.SettledLaws.{cut_side, kind_open, CutRightly}
use Rattle.cuts.proofs.Turns.{length-held}
use Rattle.cuts.proofs.OnlyCuts.{turn_in, holds, only_cuts}
use Rattle.cuts.proofs.OpenCuts.{stage_left, held_get}
use Rattle.cuts.proofs.Standing.{EligibleAt}

-- ---- what an eligible entry is

side_cut : (gap : ℤ) (d : Side) → cuts_side gap d ≡ true → d ≡ cut_side gap
side_cut (pos n) Sell h = refl
side_cut (pos n) Buy h = absurd (let z = ltb-true n 0 h in omega arith)
side_cut (negsuc n) Sell h = cc
side_cut (negsuc n) Buy h = refl

rounded_at : {X : Type 0} (kind : Kind X) (i : ℕ) (xs : List X) (fs : List ℕ) (p : ℕ) (x : X) → p < length xs → p < length fs → ((d : X) → get_or xs p d ≡ x)
    → get_or (rounded_numbers kind i xs fs) p 0 ≡ number kind i x (get_or fs p 0)
rounded_at kind i [] fs p x h k e = absurd (omega arith)
rounded_at kind i (y ∷ xs) [] p x h k e = absurd (omega arith)
rounded_at kind i (y ∷ xs) (f ∷ fs) zero x h k e = ap (λ z. number kind i z f) (e x)
rounded_at kind i (y ∷ xs) (f ∷ fs) (suc p) x h k e = rounded_at kind i xs fs p x (omega arith) (omega arith) e

-- an entry of that side stands at p
abbrev OnSide : {X : Type 0} → Kind X → List X → Side → ℕ → Type 0
OnSide {X} kind xs d p = (p < length xs) × ((x : X) → kind.side (get_or xs p x) ≡ d)

module _ {X : Type 0} (kind : Kind X) (i : ℕ) (gap : ℤ) (xs : List X) (fs : List ℕ) where
  -- of the interval, of the side that is cut, with a rounded step, and filled as the stage asks
  eligible_parts : (f : Filled) (p : ℕ) (e : EligibleAt kind (stage_of i gap f) xs fs p)
      → (kind.covers e.entry i ≡ true) × (cuts_side gap (kind.side e.entry) ≡ true) × (ltb 0 (nearest (get_or fs p 0)) ≡ true) × (filled_so f (get_or fs p 0) (kind.quantity e.entry) ≡ true)
  eligible_parts f p e =
      let x = e.entry in
      let fill = get_or fs p 0 in
      let a = and_parts (cut_here kind i gap x) (holds_some f fill (kind.quantity x)) e.passes in
      let b = and_parts (kind.covers x i) (cuts_side gap (kind.side x)) a.0 in
      let c = and_parts (ltb 0 (nearest fill)) (filled_so f fill (kind.quantity x)) a.1 in
      (b.0, b.1, c.0, c.1)

  eligible_some : (f : Filled) (p : ℕ) → EligibleAt kind (stage_of i gap f) xs fs p → 1 ≤ get_or (rounded_numbers kind i xs fs) p 0
  eligible_some f p e =
      let parts = eligible_parts f p e in
      let r = rounded_at kind i xs fs p e.entry e.inside e.filled e.there in
      let c : number kind i e.entry (get_or fs p 0) ≡ nearest (get_or fs p 0) = cond-true _ _ _ parts.0 in
      omega (arith, ltb-true 0 (nearest (get_or fs p 0)) parts.2)

  eligible_side : (f : Filled) (p : ℕ) → EligibleAt kind (stage_of i gap f) xs fs p → OnSide kind xs (cut_side gap) p
  eligible_side f p e = (e.inside, λ x. ap kind.side (e.there x) ∙ side_cut gap (kind.side e.entry) (eligible_parts f p e).1)

  -- none is both partly filled and full
  eligible_once : (p q : ℕ) → EligibleAt kind (stage_of i gap Partly) xs fs p → EligibleAt kind (stage_of i gap Full) xs fs q → p ≢ q
  eligible_once p q e f same =
      let x = e.entry in
      let a : full (kind.quantity x) (get_or fs p 0) ≡ false = not-true (full (kind.quantity x) (get_or fs p 0)) (eligible_parts Partly p e).3 in
      let b : full (kind.quantity f.entry) (get_or fs q 0) ≡ true = (eligible_parts Full q f).3 in
      let y : x ≡ f.entry = sym (e.there x) ∙ ap (λ k. get_or xs k x) same ∙ f.there x in
      let c : full (kind.quantity x) (get_or fs p 0) ≡ true = ap₂ (λ k z. full (kind.quantity z) (get_or fs k 0)) same y ∙ b in
      both_ways (full (kind.quantity x) (get_or fs p 0)) a c

  -- one that is not cut here is none of the candidates
  eligible_here : (f : Filled) (p k : ℕ) → EligibleAt kind (stage_of i gap f) xs fs p → ((x : X) → cut_here kind i gap (get_or xs k x) ≡ false) → p ≢ k
  eligible_here f p k e out same =
      let x = e.entry in
      let a = and_parts (cut_here kind i gap x) (holds_some f (get_or fs p 0) (kind.quantity x)) e.passes in
      let y : get_or xs k x ≡ x = ap (λ z. get_or xs z x) (sym same) ∙ e.there x in
      both_ways (cut_here kind i gap x) (ap (cut_here kind i gap) (sym y) ∙ out x) a.0

-- ---- sells less buys

net_less : {X : Type 0} (kind : Kind X) (d : Side) (xs : List X) (ns : List ℕ) (p : ℕ) → p < length xs → 1 ≤ get_or ns p 0 → ((x : X) → kind.side (get_or xs p x) ≡ d)
    → (net kind xs (one_less ns p) +ℤ signed d 1) ≡ net kind xs ns
net_less kind d [] ns p l h e = absurd (omega arith)
net_less kind d (x ∷ xs) [] p l h e = absurd (omega arith)
net_less kind Sell (x ∷ xs) (n ∷ ns) zero l h e = let s : kind.side x ≡ Sell = e x in rw s (omega (arith, ints))
net_less kind Buy (x ∷ xs) (n ∷ ns) zero l h e = let s : kind.side x ≡ Buy = e x in rw s (omega (arith, ints))
net_less kind d (x ∷ xs) (n ∷ ns) (suc p) l h e = let i = net_less kind d xs ns p (omega arith) h e in omega (arith, ints)

signed_none : (d : Side) (n : ℕ) → signed d (n - n) ≡ pos 0
signed_none Sell n = omega (arith, ints)
signed_none Buy n = omega (arith, ints)

signed_more : (d : Side) (g l : ℕ) → l ≤ g → signed d (suc g - l) ≡ (signed d (g - l) +ℤ signed d 1)
signed_more Sell g l h = omega (arith, ints)
signed_more Buy g l h = omega (arith, ints)

-- The cuts of a stage take from sells less buys what they cut of that side.
net-turns : {X : Type 0} (kind : Kind X) (xs : List X) (d : Side) (ps : List ℕ) (t : ℕ) (ns : List ℕ) (g : ℕ) → Every (OnSide kind xs d) ps
    → (net kind xs (turns last_step ps t ns g).numbers +ℤ signed d (g - (turns last_step ps t ns g).left)) ≡ net kind xs ns
net-turns kind xs d ps t ns zero all = let z = signed_none d 0 in omega (arith, ints)
net-turns kind xs d ps t ns (suc g) all =
    cond_both (leb (get_or (held ps ns) t 0) 1) _ _ (λ (c : Cut). (net kind xs c.numbers +ℤ signed d (suc g - c.left)) ≡ net kind xs ns)
    (λ _. let z = signed_none d (suc g) in omega (arith, ints))
    (λ e.
    let more : 1 < get_or (held ps ns) t 0 = leb-false (get_or (held ps ns) t 0) 1 e in
    let p = get_or ps t 0 in
    let u = next_turn (length ps) t in
    let on = All-get_or (OnSide kind xs d) ps t 0 (turn_in ps ns t more) all in
    let h = net-turns kind xs d ps u (one_less ns p) g all in
    let w = net_less kind d xs ns p on.0 (omega (arith, holds ps ns t more)) on.1 in
    let m = signed_more d g (turns last_step ps u (one_less ns p) g).left (only_cuts ps u (one_less ns p) g).within in
    omega (arith, ints))

-- ---- both stages

module _ {X : Type 0} (kind : Kind X) (i : ℕ) (gap : ℤ) (xs : List X) (fs : List ℕ) (places : Filled → List ℕ)
    (apart : (f : Filled) → Apart (places f)) (good : (f : Filled) → Every (EligibleAt kind (stage_of i gap f) xs fs) (places f)) (g : ℕ) where
  ns : List ℕ
  ns = rounded_numbers kind i xs fs

  one : Cut
  one = stage_cut last_step (places Partly) ns g

  two : Cut
  two = stage_cut last_step (places Full) one.numbers one.left

  only_one : OnlyCuts (places Partly) ns g one.numbers one.left
  unfolding ns one
  only_one = only_cuts (places Partly) 0 ns g

  only_two : OnlyCuts (places Full) one.numbers one.left two.numbers two.left
  unfolding two
  only_two = only_cuts (places Full) 0 one.numbers one.left

  candidates_of : (f : Filled) → Candidates (places f) ns
  unfolding ns
  candidates_of f = record { apart = apart f; some = All-weaker (EligibleAt kind (stage_of i gap f) xs fs) (λ p. 1 ≤ get_or ns p 0) (λ p e. eligible_some kind i gap xs fs f p e) (places f) (good f) }

  -- the first stage leaves the candidates of the second as they were
  kept : (q : ℕ) → EligibleAt kind (stage_of i gap Full) xs fs q → get_or one.numbers q 0 ≡ get_or ns q 0
  kept q e = only_one.others q (All-weaker (EligibleAt kind (stage_of i gap Partly) xs fs) (λ p. p ≢ q) (λ p a. eligible_once kind i gap xs fs p q a e) (places Partly) (good Partly))

  held_kept : held (places Full) one.numbers ≡ held (places Full) ns
  held_kept =
      let ps = places Full in
      same_lists _ _ (length-held ps one.numbers ∙ sym (length-held ps ns)) (λ k d h.
      let l : k < length ps = omega (arith, length-held ps one.numbers) in
      let h' : k < length (held ps ns) = omega (arith, length-held ps one.numbers, length-held ps ns) in
      get_or_default (held ps one.numbers) k d 0 h ∙ held_get ps one.numbers k l
      ∙ kept (get_or ps k 0) (All-get_or (EligibleAt kind (stage_of i gap Full) xs fs) ps k 0 l (good Full))
      ∙ sym (held_get ps ns k l) ∙ get_or_default (held ps ns) k 0 d h')

  second_candidates : Candidates (places Full) one.numbers
  second_candidates = record { apart = apart Full; some = All-weaker (λ p. 1 ≤ get_or ns p 0) (λ p. 1 ≤ get_or one.numbers p 0) (λ p h. only_one.least p h) (places Full) (candidates_of Full).some }

  left_two : two.left ≡ g - kind_open places ns
  unfolding one two
  left_two =
      let a = stage_left (places Partly) ns g (candidates_of Partly) in
      let b = stage_left (places Full) one.numbers one.left second_candidates in
      let c = ap open_cuts held_kept in
      omega arith

  on_side : (f : Filled) → Every (OnSide kind xs (cut_side gap)) (places f)
  on_side f = All-weaker (EligibleAt kind (stage_of i gap f) xs fs) (OnSide kind xs (cut_side gap)) (λ p e. eligible_side kind i gap xs fs f p e) (places f) (good f)

  difference : (d : Side) (a b c : ℕ) → c ≤ b → b ≤ a → signed d (a - c) ≡ (signed d (b - c) +ℤ signed d (a - b))
  difference Sell a b c h k = omega (arith, ints)
  difference Buy a b c h k = omega (arith, ints)

  net_two : (net kind xs two.numbers +ℤ signed (cut_side gap) (g - two.left)) ≡ net kind xs ns
  unfolding one two
  net_two =
      let d = cut_side gap in
      let a = net-turns kind xs d (places Partly) 0 ns g (on_side Partly) in
      let b = net-turns kind xs d (places Full) 0 one.numbers one.left (on_side Full) in
      let c = difference d g one.left two.left only_two.within only_one.within in
      omega (arith, ints)

  within_two : two.left ≤ g
  within_two = omega (arith, only_one.within, only_two.within)

  sum_two : sum two.numbers + (g - two.left) ≡ sum ns
  sum_two = omega (arith, only_one.within, only_two.within, only_one.lost, only_two.lost)

  right_two : CutRightly kind xs i gap ns two.numbers
  right_two =
      let out : (f : Filled) (k : ℕ) → ((x : X) → cut_here kind i gap (get_or xs k x) ≡ false) → Every (λ p. p ≢ k) (places f) =
      λ f k h. All-weaker (EligibleAt kind (stage_of i gap f) xs fs) (λ p. p ≢ k) (λ p e. eligible_here kind i gap xs fs f p k e h) (places f) (good f) in
      record {
        fewer = λ k. omega (arith, only_one.fewer k, only_two.fewer k);
        least = λ k h. only_two.least k (only_one.least k h);
        others = λ k h. only_two.others k (out Full k h) ∙ only_one.others k (out Partly k h);
      }

  -- all of it, of what the two stages leave
  pub record StagesRight (c : Cut) : Type 0 where
    pub left : c.left ≡ g - kind_open places (rounded_numbers kind i xs fs)
    pub within : c.left ≤ g
    pub nets : (net kind xs c.numbers +ℤ signed (cut_side gap) (g - c.left)) ≡ net kind xs (rounded_numbers kind i xs fs)
    pub sums : sum c.numbers + (g - c.left) ≡ sum (rounded_numbers kind i xs fs)
    pub right : CutRightly kind xs i gap (rounded_numbers kind i xs fs) c.numbers

  pub stages_right : StagesRight (two_stages last_step places (rounded_numbers kind i xs fs) g)
  unfolding ns one two
  stages_right = record { left = left_two; within = within_two; nets = net_two; sums = sum_two; right = right_two }
