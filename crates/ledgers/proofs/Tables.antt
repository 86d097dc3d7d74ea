-- The run of lawful records: its laws, its count, and what a write to one of its balances leaves.
use Rattle.std.proofs.Common.{◌≡◌, ℕ, zero, suc, ◌+◌, ◌<◌, ◌≤◌, true, false, cond, List, [], ◌∷◌, ◌++◌, length, get_or, take, drop, set, ℤ, ◌+ℤ◌, Some, None, Ok, Err, min, sym, refl, ap, ◌∙◌, subst, ⊎_elim, arith}
use Rattle.std.proofs.lemmas.Bool.{cases_lt}
use Rattle.std.proofs.lemmas.Int.{ints}
use Rattle.std.proofs.lemmas.List.{length-take, length-set, get_or-take, drop_more, take_all, drop-set-lt, take-append-drop, take-take}
use Rattle.ledger.specs.declared.account.Account.{Account}
use Rattle.ledger.specs.Model.{within, moved, raised, find, answer, answer_at, after, blank}
use Rattle.ledger.proofs.Posting.{by_test, after_taken}
use Rattle.ledger.proofs.Places.{found_at, posted_at, not_found}
use Rattle.ledger.specs.declared.refusal.PostRefused.TheVariants.{NotOpen, OutOfBounds}
use Rattle.ledgers.specs.Table.{most, lawful_from, run, table_model, open_records, beyond, Absent, FirstAt, TableKept}

pub run_length : (least : ℕ) (xs : List Account) → length (run least xs) ≤ length xs
run_length least [] = omega arith
run_length least (a ∷ rest) =
    by_test (lawful_from least a) (λ b. length (cond b (a ∷ run (suc a.number) rest) []) ≤ suc (length rest))
    (λ _. let h = run_length (suc a.number) rest in omega arith)
    (λ _. omega arith)

-- the run is a front of the records
pub run_front : (least : ℕ) (xs : List Account) → run least xs ≡ take (length (run least xs)) xs
run_front least [] = refl
run_front least (a ∷ rest) =
    by_test (lawful_from least a) (λ b. cond b (a ∷ run (suc a.number) rest) [] ≡ take (length (cond b (a ∷ run (suc a.number) rest) [])) (a ∷ rest))
    (λ _. ap (λ l. a ∷ l) (run_front (suc a.number) rest))
    (λ _. refl)

lawful-moved : (least : ℕ) (a : Account) (x : ℤ) → lawful_from least a ≡ true → within a (a.balance +ℤ x) ≡ true → lawful_from least (moved a x) ≡ true
lawful-moved least a x e h = grind (arith, ints)

-- a balance that moves within its bounds leaves the run as it was elsewhere
pub run-set : (least : ℕ) (xs : List Account) (i : ℕ) (d : Account) (x : ℤ) → i < length (run least xs) → within (get_or xs i d) ((get_or xs i d).balance +ℤ x) ≡ true → run least (set xs i (moved (get_or xs i d) x)) ≡ set (run least xs) i (moved (get_or xs i d) x)
run-set least [] i d x h w = absurd (omega arith)
run-set least (a ∷ rest) zero d x h w =
    by_test (lawful_from least a) (λ b. lawful_from least a ≡ b → 0 < length (cond b (a ∷ run (suc a.number) rest) []) → run least (moved a x ∷ rest) ≡ set (cond b (a ∷ run (suc a.number) rest) []) 0 (moved a x))
    (λ _ e _. rw (lawful-moved least a x e w))
    (λ _ _ lt. absurd (omega arith))
    refl h
run-set least (a ∷ rest) (suc i) d x h w =
    by_test (lawful_from least a) (λ b. suc i < length (cond b (a ∷ run (suc a.number) rest) []) → cond b (a ∷ run (suc a.number) (set rest i (moved (get_or rest i d) x))) [] ≡ set (cond b (a ∷ run (suc a.number) rest) []) (suc i) (moved (get_or rest i d) x))
    (λ _ lt. ap (λ l. a ∷ l) (run-set (suc a.number) rest i d x (omega arith) w))
    (λ _ lt. absurd (omega arith))
    h

-- no more than the first records are looked at
pub few_is : (rs : List Account) → take (min (length rs) most) rs ≡ take most rs
few_is rs =
    ⊎_elim
    (λ lt. let same : min (length rs) most ≡ most = omega arith in ap (λ n. take n rs) same)
    (λ le. let same : min (length rs) most ≡ length rs = omega arith in ap (λ n. take n rs) same ∙ take_all (length rs) rs (omega arith) ∙ sym (take_all most rs le))
    (cases_lt most (length rs))

-- the count, one record more
module _ (few : List Account) (least i n : ℕ) (d : Account) (so_far : i + length (run least (drop i few)) ≡ n) where
  pub count_more : i < length few → lawful_from least (get_or few i d) ≡ true → (i + 1) + length (run ((get_or few i d).number + 1) (drop (i + 1) few)) ≡ n
  count_more h e =
      let s : length (run least (drop i few)) ≡ suc (length (run (suc (get_or few i d).number) (drop (i + 1) few))) = ap (λ l. length (run least l)) (drop_more few i d h) ∙ rw e in
      let t : length (run ((get_or few i d).number + 1) (drop (i + 1) few)) ≡ length (run (suc (get_or few i d).number) (drop (i + 1) few)) = ap (λ k. length (run k (drop (i + 1) few))) (omega arith) in
      omega arith

pub open_most : (rs : List Account) → open_records rs ≤ most
open_most rs = let h = run_length 0 (take most rs) in let k = length-take most rs in omega arith

pub open_length : (rs : List Account) → open_records rs ≤ length rs
open_length rs = let h = run_length 0 (take most rs) in let k = length-take most rs in omega arith

pub model-front : (rs : List Account) → table_model rs ≡ take (open_records rs) rs
model-front rs = run_front 0 (take most rs) ∙ take-take (open_records rs) most rs (open_most rs)

take_set_lt : (n : ℕ) (xs : List Account) (i : ℕ) (a : Account) → take n (set xs i a) ≡ set (take n xs) i a
take_set_lt zero xs i a = refl
take_set_lt (suc n) [] i a = refl
take_set_lt (suc n) (x ∷ xs) zero a = refl
take_set_lt (suc n) (x ∷ xs) (suc i) a = ap (λ l. x ∷ l) (take_set_lt n xs i a)

module _ (rs : List Account) (i : ℕ) (d : Account) (lt : i < open_records rs) where
  pub model_at : get_or (table_model rs) i d ≡ get_or rs i d
  model_at = ap (λ l. get_or l i d) (model-front rs) ∙ get_or-take (open_records rs) rs i d lt

  pub model-set : (x : ℤ) → within (get_or rs i d) ((get_or rs i d).balance +ℤ x) ≡ true → table_model (set rs i (moved (get_or rs i d) x)) ≡ set (table_model rs) i (moved (get_or rs i d) x)
  model-set x w =
      let near : i < most = (let h = open_most rs in omega arith) in
      let same : get_or (take most rs) i d ≡ get_or rs i d = get_or-take most rs i d near in
      ap (run 0) (take_set_lt most rs i (moved (get_or rs i d) x)) ∙ subst (λ a. run 0 (set (take most rs) i (moved a x)) ≡ set (table_model rs) i (moved a x)) same (run-set 0 (take most rs) i d x lt (rw same w))

  pub open_set : (x : ℤ) → within (get_or rs i d) ((get_or rs i d).balance +ℤ x) ≡ true → open_records (set rs i (moved (get_or rs i d) x)) ≡ open_records rs
  open_set x w = ap length (model-set x w) ∙ length-set (table_model rs) i (moved (get_or rs i d) x)

  pub beyond_set : (x : ℤ) → within (get_or rs i d) ((get_or rs i d).balance +ℤ x) ≡ true → beyond (set rs i (moved (get_or rs i d) x)) ≡ beyond rs
  beyond_set x w = ap (λ n. drop n (set rs i (moved (get_or rs i d) x))) (open_set x w) ∙ drop-set-lt (open_records rs) rs i (moved (get_or rs i d) x) lt

-- the accounts and what is beyond them are all the records
pub table_same : (rs ss : List Account) → table_model rs ≡ table_model ss → beyond rs ≡ beyond ss → rs ≡ ss
table_same rs ss e b =
    sym (take-append-drop (open_records rs) rs) ∙ ap (λ l. l ++ beyond rs) (sym (model-front rs) ∙ e ∙ model-front ss) ∙ ap (λ l. take (open_records ss) ss ++ l) b ∙ take-append-drop (open_records ss) ss

raised_within : (a : Account) (x b : ℤ) → raised a x ≡ Some b → within a (a.balance +ℤ x) ≡ true
raised_within a x b e = grind arith

pub raised_is : (a : Account) (x b : ℤ) → raised a x ≡ Some b → b ≡ a.balance +ℤ x
raised_is a x b e = grind arith

refused_within : (a : Account) (x : ℤ) → raised a x ≡ None → within a (a.balance +ℤ x) ≡ false
refused_within a x e = grind arith

-- a posting to the account at a place
module _ (rs : List Account) (i n : ℕ) (x : ℤ) (at : FirstAt (table_model rs) n i) where
  found : find (table_model rs) n ≡ Some (get_or rs i blank)
  found = found_at (table_model rs) i n blank at.inside at.here at.before ∙ ap Some (model_at rs i blank at.inside)

  pub table_answers : (b : ℤ) → raised (get_or rs i blank) x ≡ Some b → answer (table_model rs) n x ≡ Ok tt
  table_answers b e = ap (λ o. answer_at o n x) found ∙ rw (raised_within (get_or rs i blank) x b e)

  pub table_posts : (b : ℤ) → raised (get_or rs i blank) x ≡ Some b → table_model (set rs i (moved (get_or rs i blank) x)) ≡ after (table_model rs) n x
  table_posts b e =
      let w = raised_within (get_or rs i blank) x b e in
      let same = model_at rs i blank at.inside in
      model-set rs i blank at.inside x w ∙ ap (λ a. set (table_model rs) i (moved a x)) (sym same)
      ∙ sym (posted_at (table_model rs) i n blank x at.inside at.here at.before)
      ∙ sym (after_taken (table_model rs) n x (table_answers b e))

  pub table_keeps : (b : ℤ) → raised (get_or rs i blank) x ≡ Some b → TableKept rs (set rs i (moved (get_or rs i blank) x))
  table_keeps b e =
      let w = raised_within (get_or rs i blank) x b e in
      (sym (open_set rs i blank at.inside x w), sym (beyond_set rs i blank at.inside x w))

  pub table_refuses : raised (get_or rs i blank) x ≡ None → answer (table_model rs) n x ≡ Err (OutOfBounds n)
  table_refuses e = ap (λ o. answer_at o n x) found ∙ rw (refused_within (get_or rs i blank) x e)

pub table_absent : (rs : List Account) (n : ℕ) (x : ℤ) → Absent (table_model rs) n → answer (table_model rs) n x ≡ Err (NotOpen n)
table_absent rs n x none = ap (λ o. answer_at o n x) (not_found (table_model rs) n blank none)
