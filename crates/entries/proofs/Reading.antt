-- What is written into the sheet reads back.
use Rattle.std.proofs.Common.{◌≡◌, ℕ, zero, suc, ◌+◌, ◌-◌, ◌*◌, ◌/◌, ◌%◌, ◌<◌, ◌≤◌, Bool, true, cond, List, length, get_or, set, sym, refl, ap, ◌∙◌, ⊎_elim, arith}
use lib.Arith.{digits_div, digits_mod}
use Rattle.std.proofs.lemmas.List.{length-set, get_or-set_same, get_or-set_other}
use Rattle.std.proofs.lemmas.Bool.{lt-ltb, le-ltb, cases_lt, cases_eq, both_ways}
use Rattle.ledger.proofs.Posting.{by_test}
use Rattle.market.specs.declared.records.Order.{Order}
use Rattle.market.specs.declared.records.Block.{Block}
use Rattle.entries.specs.Sheet.{of_interval, row_of, place_of, written, sheet_with, Laid, Fits}
use Rattle.entries.specs.Laws.{Reads}
use Rattle.entries.proofs.Rows.{fits}

-- ---- the places

order-place : (o n i k : ℕ) → k < o → place_of o n i k ≡ k
order-place o n i k h = ap (λ b. cond b k (row_of o n k + (i - 1))) (lt-ltb k o h)

block_place : (o n i k : ℕ) → o ≤ k → place_of o n i k ≡ row_of o n k + (i - 1)
block_place o n i k h = ap (λ b. cond b k (row_of o n k + (i - 1))) (le-ltb k o h)

place_below : (o n i k size : ℕ) → Fits o n i k size → place_of o n i k < size
place_below o n i k size f =
    ⊎_elim
    (λ lt. let p = order-place o n i k lt in let q = f.order lt in omega arith)
    (λ past. let p = block_place o n i k past in let q = f.row past in omega (arith, f.from, f.to))
    (cases_lt k o)

-- two blocks
blocks-apart : (o n i j k l : ℕ) → 1 ≤ i → i ≤ n → 1 ≤ j → j ≤ n → o ≤ k → o ≤ l → row_of o n k + (i - 1) ≡ row_of o n l + (j - 1) → (k ≡ l) × (o ≤ k → i ≡ j)
blocks-apart o n i j k l a b c d p q e =
    let u : i - 1 < n = omega arith in
    let v : j - 1 < n = omega arith in
    let same : (k - o) * n + (i - 1) ≡ (l - o) * n + (j - 1) = omega arith in
    let rows : k - o ≡ l - o = sym (digits_div (k - o) u) ∙ ap (λ x. x / n) same ∙ digits_div (l - o) v in
    let columns : i - 1 ≡ j - 1 = sym (digits_mod (k - o) u) ∙ ap (λ x. x % n) same ∙ digits_mod (l - o) v in
    (omega arith, λ _. omega arith)

pub apart : (o n i j k l : ℕ) → 1 ≤ i → i ≤ n → 1 ≤ j → j ≤ n → place_of o n i k ≡ place_of o n j l → (k ≡ l) × (o ≤ k → i ≡ j)
apart o n i j k l a b c d e =
    ⊎_elim
    (λ p. let x = order-place o n i k p in
    ⊎_elim
    (λ q. let y = order-place o n j l q in (omega arith, λ past. absurd (omega arith)))
    (λ q. let y = block_place o n j l q in absurd (omega arith))
    (cases_lt l o))
    (λ p. let x = block_place o n i k p in
    ⊎_elim
    (λ q. let y = order-place o n j l q in absurd (omega arith))
    (λ q. let y = block_place o n j l q in blocks-apart o n i j k l a b c d p q (sym x ∙ e ∙ y))
    (cases_lt l o))
    (cases_lt k o)

-- ---- what is written

module _ (place : ℕ → ℕ) (passes : ℕ → Bool) (v : ℕ → ℕ) (s : List ℕ) where
  pub length_written : (m : ℕ) → length (written place passes v m s) ≡ length s
  length_written zero = refl
  length_written (suc m) =
      by_test (passes m) (λ b. length (cond b (set (written place passes v m s) (place m) (v m)) (written place passes v m s)) ≡ length s)
      (λ _. length-set (written place passes v m s) (place m) (v m) ∙ length_written m)
      (λ _. length_written m)

  read_here : ((k l : ℕ) → place k ≡ place l → k ≡ l) → (m : ℕ) → ((k : ℕ) → k < m → place k < length s) → (k : ℕ) → k < m → passes k ≡ true → get_or (written place passes v m s) (place k) 0 ≡ v k
  read_here inj zero below k h t = absurd (omega arith)
  read_here inj (suc m) below k h t =
      let w = written place passes v m s in
      let long = length_written m in
      by_test (passes m) (λ b. passes m ≡ b → get_or (cond b (set w (place m) (v m)) w) (place k) 0 ≡ v k)
      (λ _ _. ⊎_elim
      (λ e. let there : place m < length w = let lt = below m (omega arith) in omega arith in
      ap (λ j. get_or (set w (place m) (v m)) (place j) 0) e ∙ get_or-set_same w (place m) (v m) 0 there ∙ ap v (sym e))
      (λ ne. get_or-set_other w (place m) (place k) (v m) 0 (λ e. ne (inj k m e)) ∙ read_here inj m (λ j lt. below j (omega arith)) k (let d : k ≡ m → ⊥ = ne in omega arith) t)
      (cases_eq k m))
      (λ _ f. ⊎_elim
      (λ e. absurd (both_ways (passes m) f (ap passes (sym e) ∙ t)))
      (λ ne. read_here inj m (λ j lt. below j (omega arith)) k (let d : k ≡ m → ⊥ = ne in omega arith) t)
      (cases_eq k m))
      refl

  pub read_elsewhere : (m p : ℕ) → ((k : ℕ) → k < m → passes k ≡ true → place k ≡ p → ⊥) → get_or (written place passes v m s) p 0 ≡ get_or s p 0
  read_elsewhere zero p h = refl
  read_elsewhere (suc m) p h =
      let w = written place passes v m s in
      let before = read_elsewhere m p (λ k lt. h k (omega arith)) in
      by_test (passes m) (λ b. passes m ≡ b → get_or (cond b (set w (place m) (v m)) w) p 0 ≡ get_or s p 0)
      (λ _ t. get_or-set_other w (place m) p (v m) 0 (λ e. h m (omega arith) t (sym e)) ∙ before)
      (λ _ _. before)
      refl

pub reads_back : (os : List Order) (bs : List Block) (n i : ℕ) (ns s : List ℕ) → Laid (length os) (length bs) n i (length s) → Reads os bs n i ns s (sheet_with os bs n i ns s)
unfolding sheet_with
reads_back os bs n i ns s laid =
    let o = length os in
    let place = place_of o n i in
    let passes = of_interval os bs i in
    let v : ℕ → ℕ = λ k. get_or ns k 0 in
    let inj : (k l : ℕ) → place k ≡ place l → k ≡ l = λ k l e. (apart o n i i k l laid.from laid.to laid.from laid.to e).0 in
    record {
      size = length_written place passes v s (o + length bs);
      here = read_here place passes v s inj (o + length bs) (λ k lt. place_below o n i k (length s) (fits o (length bs) n i (length s) laid k lt));
      elsewhere = read_elsewhere place passes v s (o + length bs);
    }
