-- The run is the longest, the check tells where it ends, and a posting leaves the other records.
use Rattle.std.proofs.Common.{◌≡◌, ℕ, zero, suc, ◌+◌, ◌-◌, ◌≤◌, true, cond, eqb, List, [], ◌∷◌, ◌++◌, length, get_or, take, drop, ℤ, pos, neg_ℤ, ◌≤ℤ◌, Ok, Err, Result, sym, refl, ap, ◌∙◌, subst, arith, lt-ltb, eq-eqb, ne_eqb, eqb-true, le-leb}
use lib.Signed.{le_z}
use borrow.Author.Tests.{clash}
use Rattle.std.proofs.lemmas.List.{length-take, get_or-drop, take-append-drop, take-take, take_all}
use Rattle.std.proofs.lemmas.Int.{ints}
use Rattle.ledger.specs.declared.account.Account.{Account}
use Rattle.ledger.specs.Model.{limit, numbers, Sound, From, Lawful, moved, posted, after, blank}
use Rattle.ledger.proofs.Posting.{by_test, by_answer}
use Rattle.ledgers.specs.declared.refusal.TableRefused.{TableRefused}
use Rattle.ledgers.specs.declared.refusal.TableRefused.TheVariants.{OutsideRun}
use Rattle.ledgers.specs.Table.{most, lawful_from, run, table_model, open_records, beyond, TableKept, checked}
use Rattle.ledgers.specs.Lawfuls.{table_lawful}
use Rattle.ledgers.specs.Laws.{Outside, Says, OnlyBalance, IdleStay}
use Rattle.ledgers.proofs.Tables.{open_most, open_length, model-front, table_same}

le_z_holds : (a b : ℤ) → a ≤ℤ b → le_z a b ≡ true
le_z_holds a b h = grind (arith, ints)

parts_lawful : (least : ℕ) (a : Account) → least ≤ a.number → Sound a → lawful_from least a ≡ true
parts_lawful least a h s =
    rw (le-leb least a.number h, lt-ltb a.number numbers s.numbered, le_z_holds (neg_ℤ (pos limit)) a.lower s.lowest, le_z_holds a.lower a.balance s.above, le_z_holds a.balance a.upper s.under, le_z_holds a.upper (pos limit) s.highest)

-- a lawful front is within the run
run_longest : (least : ℕ) (xs : List Account) (n : ℕ) → n ≤ length xs → From least (take n xs) → n ≤ length (run least xs)
run_longest least xs zero h f = omega arith
run_longest least [] (suc n) h f = absurd (omega arith)
run_longest least (a ∷ rest) (suc n) h (q, s, f) =
    let again = run_longest (suc a.number) rest n (omega arith) f in
    rw (parts_lawful least a q s) (omega arith)

pub table_longest : (rs : List Account) (n : ℕ) → n ≤ most → n ≤ length rs → Lawful (take n rs) → n ≤ open_records rs
table_longest rs n few h f =
    let k : length (take most rs) ≡ _ = length-take most rs in
    run_longest 0 (take most rs) n (omega arith) (subst Lawful (sym (take-take n most rs few)) f)

-- a front of a lawful list is lawful
from_front : (least : ℕ) (xs : List Account) (n : ℕ) → From least xs → From least (take n xs)
from_front least xs zero f = tt
from_front least [] (suc n) f = tt
from_front least (a ∷ rest) (suc n) (q, s, f) = (q, s, from_front (suc a.number) rest n f)

front_lawful : (rs : List Account) (n : ℕ) → n ≤ open_records rs → Lawful (take n rs)
front_lawful rs n h =
    let same : take n (table_model rs) ≡ take n rs = ap (take n) (model-front rs) ∙ take-take n (open_records rs) rs h in
    subst Lawful same (from_front 0 (table_model rs) n (table_lawful rs))

-- the check
module _ (rs : List Account) where
  all_says : open_records rs ≡ length rs → (length rs ≤ most) × Lawful rs
  all_says e =
      let few = open_most rs in
      (omega arith, subst Lawful (model-front rs ∙ take_all (open_records rs) rs (omega arith)) (table_lawful rs))

  first_says : (open_records rs ≡ length rs → ⊥) → Outside rs (suc (open_records rs))
  first_says ne =
      let few = open_most rs in
      let long = open_length rs in
      let down : suc (open_records rs) - 1 ≡ open_records rs = omega arith in
      record {
        from_one = omega arith;
        inside = omega arith;
        few = omega arith;
        before = front_lawful rs (suc (open_records rs) - 1) (omega arith);
        ends = λ h f. let k = table_longest rs (suc (open_records rs)) h (omega arith) f in omega arith;
      }

  check_says : Says rs (checked rs)
  check_says =
      by_test (eqb (open_records rs) (length rs)) (λ b. Says rs (cond b (Ok tt) (Err (OutsideRun (suc (open_records rs))))))
      (λ e. all_says (eqb-true (open_records rs) (length rs) e))
      (λ e. first_says (λ z. clash (sym e ∙ eq-eqb (open_records rs) (length rs) z)))

  outside_is : (k : ℕ) → Outside rs k → k ≡ suc (open_records rs)
  outside_is k o =
      let few = o.few in
      let one = o.from_one in
      let inside = o.inside in
      let most-open = open_most rs in
      let up : k - 1 ≤ open_records rs = table_longest rs (k - 1) (omega arith) (omega arith) o.before in
      let not_in : k ≤ open_records rs → ⊥ = λ h. o.ends (omega arith) (front_lawful rs k h) in
      grind arith

  says_check : (r : Result (Unit {0}) TableRefused) → Says rs r → r ≡ checked rs
  says_check (Ok tt) (few, f) =
      let up = table_longest rs (length rs) few (omega arith) (subst Lawful (sym (take_all (length rs) rs (omega arith))) f) in
      let down = open_length rs in
      let e : open_records rs ≡ length rs = omega arith in
      rw (eq-eqb (open_records rs) (length rs) e)
  says_check (Err (OutsideRun k)) o =
      let e = outside_is k o in
      let inside = o.inside in
      let ne : open_records rs ≡ length rs → ⊥ = λ z. omega arith in
      rw (ne_eqb (open_records rs) (length rs) ne) (ap (λ j. Err (OutsideRun j)) e)

  pub checks : (r : Result (Unit {0}) TableRefused) → (Says rs r → r ≡ checked rs) × (r ≡ checked rs → Says rs r)
  checks r = (says_check r, λ e. subst (Says rs) (sym e) check_says)

-- the records are the accounts, and what is beyond them
pub whole : (rs : List Account) → table_model rs ++ beyond rs ≡ rs
whole rs = ap (λ l. l ++ beyond rs) (model-front rs) ∙ take-append-drop (open_records rs) rs

pub records_stay : (rs ss : List Account) → table_model ss ≡ table_model rs → TableKept rs ss → ss ≡ rs
records_stay rs ss e (o, b) = table_same ss rs e (sym b)

-- two lists of records that differ only in the balance of the account n, if they differ
same_near : (n : ℕ) (xs : List Account) → OnlyBalance n xs xs
same_near n xs = record { long = refl; numbers = λ k. refl; lowers = λ k. refl; uppers = λ k. refl; others = λ k ne. refl }

-- what holds at the first place and at the places after it holds at each
each_place : (P : ℕ → Type 0) → P 0 → ((k : ℕ) → P (suc k)) → (k : ℕ) → P k
each_place P z s zero = z
each_place P z s (suc k) = s k

more_near : (n : ℕ) (a : Account) (xs ys : List Account) → OnlyBalance n xs ys → OnlyBalance n (a ∷ xs) (a ∷ ys)
more_near n a xs ys r =
    record {
      long = ap suc r.long;
      numbers = each_place (λ k. (get_or (a ∷ ys) k blank).number ≡ (get_or (a ∷ xs) k blank).number) refl r.numbers;
      lowers = each_place (λ k. (get_or (a ∷ ys) k blank).lower ≡ (get_or (a ∷ xs) k blank).lower) refl r.lowers;
      uppers = each_place (λ k. (get_or (a ∷ ys) k blank).upper ≡ (get_or (a ∷ xs) k blank).upper) refl r.uppers;
      others = each_place (λ k. ((get_or (a ∷ xs) k blank).number ≡ n → ⊥) → get_or (a ∷ ys) k blank ≡ get_or (a ∷ xs) k blank) (λ ne. refl) r.others;
    }

moved_near : (n : ℕ) (a : Account) (x : ℤ) (xs : List Account) → a.number ≡ n → OnlyBalance n (a ∷ xs) (moved a x ∷ xs)
moved_near n a x xs e =
    record {
      long = refl;
      numbers = each_place (λ k. (get_or (moved a x ∷ xs) k blank).number ≡ (get_or (a ∷ xs) k blank).number) refl (λ k. refl);
      lowers = each_place (λ k. (get_or (moved a x ∷ xs) k blank).lower ≡ (get_or (a ∷ xs) k blank).lower) refl (λ k. refl);
      uppers = each_place (λ k. (get_or (moved a x ∷ xs) k blank).upper ≡ (get_or (a ∷ xs) k blank).upper) refl (λ k. refl);
      others = each_place (λ k. ((get_or (a ∷ xs) k blank).number ≡ n → ⊥) → get_or (moved a x ∷ xs) k blank ≡ get_or (a ∷ xs) k blank) (λ ne. absurd (ne e)) (λ k ne. refl);
    }

posted_near : (m b : List Account) (n : ℕ) (x : ℤ) → OnlyBalance n (m ++ b) (posted m n x ++ b)
posted_near [] b n x = same_near n b
posted_near (a ∷ rest) b n x =
    by_test (eqb a.number n) (λ t. OnlyBalance n (a ∷ (rest ++ b)) (cond t (moved a x ∷ rest) (a ∷ posted rest n x) ++ b))
    (λ e. moved_near n a x (rest ++ b) (eqb-true a.number n e))
    (λ _. more_near n a (rest ++ b) (posted rest n x ++ b) (posted_near rest b n x))

after_near : (m b : List Account) (n : ℕ) (x : ℤ) → OnlyBalance n (m ++ b) (after m n x ++ b)
after_near m b n x = by_answer (λ l. OnlyBalance n (m ++ b) (l ++ b)) m n x (λ _. posted_near m b n x) (same_near n (m ++ b))

drop_same : (rs ss : List Account) (n k : ℕ) → drop n rs ≡ drop n ss → n ≤ k → get_or ss k blank ≡ get_or rs k blank
drop_same rs ss n k e h =
    let s : k ≡ n + (k - n) = omega arith in
    ap (λ j. get_or ss j blank) s ∙ sym (get_or-drop n ss (k - n) blank) ∙ ap (λ l. get_or l (k - n) blank) (sym e) ∙ get_or-drop n rs (k - n) blank ∙ ap (λ j. get_or rs j blank) (sym s)

pub posts_only : (rs ss : List Account) (n : ℕ) (x : ℤ) → table_model ss ≡ after (table_model rs) n x → TableKept rs ss → OnlyBalance n rs ss × IdleStay rs ss
posts_only rs ss n x e (o, b) =
    let written : after (table_model rs) n x ++ beyond rs ≡ ss = ap (λ l. l ++ beyond rs) (sym e) ∙ ap (λ l. table_model ss ++ l) b ∙ whole ss in
    let near : OnlyBalance n rs ss = subst (λ l. OnlyBalance n rs l) written (subst (λ l. OnlyBalance n l (after (table_model rs) n x ++ beyond rs)) (whole rs) (after_near (table_model rs) (beyond rs) n x)) in
    let past : drop (open_records rs) rs ≡ drop (open_records rs) ss = b ∙ ap (λ j. drop j ss) (sym o) in
    (near, λ k h. drop_same rs ss (open_records rs) k past h)
