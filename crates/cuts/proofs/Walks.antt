-- One step of a loop over entries with their fills or numbers: what is left still gives the whole.
use Rattle.std.proofs.Common.{Iter, Option, Some, ◌≡◌, ℕ, zero, suc, ◌+◌, ◌*◌, ◌<◌, ◌≤◌, min, Bool, true, false, cond, List, [], ◌∷◌, ◌++◌, length, get_or, take, drop, set, ◌+ℤ◌, nat_abs, fold, sym, refl, ap, ◌∙◌, ap₂, add-mul, arith}
use borrow.Author.Differences.{ints}
use Rattle.market.specs.declared.records.Side.{Side}
use Rattle.market.specs.declared.records.Side.TheVariants.{Sell, Buy}
use denote.Ref.{Bor}
use Rattle.std.specs.declared.iter.Zip.{Zip}
use Rattle.std.specs.declared.iter.Enumerate.{Enumerate}
use Rattle.std.specs.Iterator.{Yields}
use Rattle.std.specs.Iterator.Adapters.{zip_first, zip_second, enumerate_source, enumerate_count, enumerate_steps}
use Rattle.std.specs.Slice.Iter.{iter_rest}
use Rattle.std.proofs.iter.Yields.{fronts}
use Rattle.std.proofs.lemmas.Iterator.{zips, YieldsList-from_slice, YieldsList-from_zip}
use Rattle.std.proofs.lemmas.Iterator.Consumers.{YieldsList-from_enumerate, YieldsList-turn}
use Rattle.std.specs.List.{zip, enumerate_from}
use Rattle.std.proofs.lemmas.Slice.Zip.{length-zip, get_or-zip}
use Rattle.std.proofs.lemmas.List.FromFn.{length-enumerate_from, get_or-enumerate_from}
use Rattle.std.proofs.lemmas.List.{get_or_default, drop_more, take_more_set, append_assoc}
use Rattle.std.proofs.lemmas.Bool.{cond-true, cond-false, cond_both}
use Rattle.cuts.specs.declared.gather.Stage.{Stage}
use Rattle.market.specs.Kinds.{Kind}
use Rattle.cuts.specs.Rounding.{nearest}
use Rattle.market.specs.Signed.{signed}
use Rattle.cuts.specs.Numbers.{number, rounded_numbers, net}
use Rattle.cuts.specs.Eligible.{eligible, candidates}
use Rattle.cuts.specs.Ordered.{placed}

pub signed-size : (d : Side) (n : ℕ) → nat_abs (signed d n) ≡ n
signed-size Sell n = refl
signed-size Buy n = omega (arith, ints)

-- what a walk over entries with their fills or numbers reads at i
pub record Reads {X : Type 0} (xs : List X) (fs : List ℕ) (i : ℕ) (x : X) (f : ℕ) : Type 0 where
  pub in-xs : i < length xs
  pub in-fs : i < length fs
  pub entry : x ≡ get_or xs i x
  pub fill : f ≡ get_or fs i 0

-- a loop over the entries with their fills, numbered from 0, which has yielded ys: what a turn reads
pub numbered_turn : {X : Type 0} (xs : List X) (fs : List ℕ) (ys : List (ℕ × (Bor X × Bor ℕ))) (s t u : Enumerate (Zip (Iter X) (Iter ℕ))) (r : Option (ℕ × (Bor X × Bor ℕ))) (p : ℕ × (Bor X × Bor ℕ))
    → iter_rest (zip_first (enumerate_source s)) ≡ xs → iter_rest (zip_second (enumerate_source s)) ≡ fs → enumerate_count s ≡ 0
    → Yields (enumerate_steps (zips fronts fronts)) s ys t → r ≡ Some p → enumerate_steps (zips fronts fronts) t r u
    → (p.0 ≡ length ys) × Reads xs fs (length ys) p.1.0.now p.1.1.now
numbered_turn {X} xs fs ys s t u r p a b n y e k =
    let road = YieldsList-from_enumerate (YieldsList-from_zip (YieldsList-from_slice xs a) (YieldsList-from_slice fs b)) n in
    let w = YieldsList-turn road ys t y r u p e k in
    let i = length ys in
    let q : ℕ × (X × ℕ) = (p.0, (p.1.0.now, p.1.1.now)) in
    let l : length (enumerate_from 0 (zip xs fs)) ≡ min (length xs) (length fs) = length-enumerate_from 0 (zip xs fs) ∙ length-zip xs fs in
    let m = length-zip xs fs in
    let in-xs : i < length xs = omega (arith, w.0) in
    let in-fs : i < length fs = omega (arith, w.0) in
    let at = w.1 ∙ get_or-enumerate_from 0 (zip xs fs) i q (omega (arith, w.0)) ∙ ap (λ z. (0 + i, z)) (get_or-zip xs fs i q.1 in-xs in-fs) in
    let z : p.0 ≡ 0 + i = ap (λ (v : ℕ × (X × ℕ)). v.0) at in
    (omega arith, record { in-xs = in-xs; in-fs = in-fs; entry = ap (λ (v : ℕ × (X × ℕ)). v.1.0) at; fill = ap (λ (v : ℕ × (X × ℕ)). v.1.1) at ∙ get_or_default fs i p.1.1.now 0 in-fs })

-- the element at i, by what was read there
read_more : {X : Type 0} (xs : List X) (i : ℕ) (x : X) → i < length xs → x ≡ get_or xs i x → drop i xs ≡ x ∷ drop (i + 1) xs
read_more xs i x h e = drop_more xs i x h ∙ ap (λ y. y ∷ drop (i + 1) xs) (sym e)

module _ {X : Type 0} (kind : Kind X) (xs : List X) (fs : List ℕ) (i : ℕ) where
  module _ (x : X) (f : ℕ) (reads : Reads xs fs i x f) where
    fills_more : drop i fs ≡ f ∷ drop (i + 1) fs
    fills_more = drop_more fs i 0 reads.in-fs ∙ ap (λ y. y ∷ drop (i + 1) fs) (sym reads.fill)

    entries_more : drop i xs ≡ x ∷ drop (i + 1) xs
    entries_more = read_more xs i x reads.in-xs reads.entry

    pub net_more : net kind (drop i xs) (drop i fs) ≡ signed (kind.side x) f +ℤ net kind (drop (i + 1) xs) (drop (i + 1) fs)
    net_more = ap₂ (net kind) entries_more fills_more

    pub rounded_more : (t : ℕ) (ns : List ℕ) → i < length ns
        → take (i + 1) (set ns i (number kind t x f)) ++ rounded_numbers kind t (drop (i + 1) xs) (drop (i + 1) fs)
        ≡ take i ns ++ rounded_numbers kind t (drop i xs) (drop i fs)
    rounded_more t ns in-ns =
        let v = number kind t x f in
        let rest = rounded_numbers kind t (drop (i + 1) xs) (drop (i + 1) fs) in
        let e : rounded_numbers kind t (drop i xs) (drop i fs) ≡ v ∷ rest = ap₂ (rounded_numbers kind t) entries_more fills_more in
        ap (λ l. l ++ rest) (take_more_set ns i v in-ns) ∙ append_assoc (take i ns) (v ∷ []) rest ∙ ap (λ l. take i ns ++ l) (sym e)

    pub candidates_more : {C : Type 0} (stands : X → ℕ → ℕ → C) (s : Stage) → candidates kind stands s (drop i xs) (drop i fs) i
        ≡ cond (eligible kind s x f) (stands x (nearest f) i ∷ candidates kind stands s (drop (i + 1) xs) (drop (i + 1) fs) (i + 1)) (candidates kind stands s (drop (i + 1) xs) (drop (i + 1) fs) (i + 1))
    candidates_more stands s = ap₂ (λ ys gs. candidates kind stands s ys gs i) entries_more fills_more

-- one entry more in the list in rank order
module _ {X C : Type 0} (kind : Kind X) (stands : X → ℕ → ℕ → C) (s : Stage) (before : C → C → Bool) (xs : List X) (fs : List ℕ) (i : ℕ) (x : X) (f : ℕ)
    (reads : Reads xs fs i x f) (whole old : List C)
    (left : fold (placed before) old (candidates kind stands s (drop i xs) (drop i fs) i) ≡ whole) where
  pub gathered_one : (new : List C) → true ≡ eligible kind s x f → new ≡ placed before old (stands x (nearest f) i)
      → fold (placed before) new (candidates kind stands s (drop (i + 1) xs) (drop (i + 1) fs) (i + 1)) ≡ whole
  gathered_one new e p =
      rw p (ap (fold (placed before) old) (sym (candidates_more kind xs fs i x f reads stands s ∙ cond-true _ _ _ (sym e))) ∙ left)

  pub gathered_none : false ≡ eligible kind s x f
      → fold (placed before) old (candidates kind stands s (drop (i + 1) xs) (drop (i + 1) fs) (i + 1)) ≡ whole
  gathered_none e = ap (fold (placed before) old) (sym (candidates_more kind xs fs i x f reads stands s ∙ cond-false _ _ _ (sym e))) ∙ left

pub length-rounded : {X : Type 0} (kind : Kind X) (t : ℕ) (xs : List X) (fs : List ℕ) → length fs ≡ length xs → length (rounded_numbers kind t xs fs) ≡ length xs
length-rounded kind t [] fs e = refl
length-rounded kind t (x ∷ xs) [] e = absurd (omega arith)
length-rounded kind t (x ∷ xs) (f ∷ fs) e = omega (arith, length-rounded kind t xs fs (omega arith))

-- a rounded number is at most its rounded fill
pub rounded_most : {X : Type 0} (kind : Kind X) (t : ℕ) (xs : List X) (fs : List ℕ) (k : ℕ) → get_or (rounded_numbers kind t xs fs) k 0 ≤ nearest (get_or fs k 0)
rounded_most kind t [] fs k = omega arith
rounded_most kind t (x ∷ xs) [] k = omega arith
rounded_most kind t (x ∷ xs) (f ∷ fs) zero = cond_both (kind.covers x t) (nearest f) 0 (λ n. n ≤ nearest f) (λ _. omega arith) (λ _. omega arith)
rounded_most kind t (x ∷ xs) (f ∷ fs) (suc k) = rounded_most kind t xs fs k

-- sells less buys is at most the sum, and that is at most as many times m
pub net_most : {X : Type 0} (kind : Kind X) (t : ℕ) (xs : List X) (fs : List ℕ) (m : ℕ) → ((k : ℕ) → nearest (get_or fs k 0) ≤ m) → nat_abs (net kind xs (rounded_numbers kind t xs fs)) ≤ length fs * m
net_most kind t [] fs m h = omega arith
net_most kind t (x ∷ xs) [] m h = omega arith
net_most kind t (x ∷ xs) (f ∷ fs) m h =
    let i = net_most kind t xs fs m (λ k. h (suc k)) in
    let n = number kind t x f in
    let b : n ≤ m = omega (arith, rounded_most kind t (x ∷ xs) (f ∷ fs) 0, h 0) in
    let w : length (f ∷ fs) * m ≡ length fs * m + m = omega (arith, add-mul (length fs) 1 m) in
    omega (arith, ints, signed-size (kind.side x) n)
