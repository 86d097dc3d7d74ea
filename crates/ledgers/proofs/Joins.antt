-- What a joined model holds, and what a posting to it does.
use Rattle.std.proofs.Common.{◌≡◌, ℕ, zero, suc, ◌+◌, ◌-◌, ◌<◌, ◌≤◌, true, false, cond, eqb, ltb, leb, List, [], ◌∷◌, ◌++◌, length, get_or, ℤ, ◌+ℤ◌, Some, None, Ok, Err, Result, sym, refl, ap, ◌∙◌, arith, ltb-false, ltb-true, le-ltb, lt-ltb, ne_eqb, leb-false, leb-true}
use Rattle.std.proofs.lemmas.List.{length-append, get_or_append_left, get_or-append-add}
use Rattle.std.proofs.lemmas.Int.{ints}
use Rattle.ledger.specs.declared.account.Account.{Account}
use Rattle.ledger.specs.declared.refusal.PostRefused.{PostRefused}
use Rattle.ledger.specs.Model.{blank, From, Lawful, find, moved, posted, number_at, answer, answer_at, after, if_taken, total}
use Rattle.ledger.proofs.Posting.{by_test}
use Rattle.ledger.proofs.Places.{number_in, number_past, ascends}
use Rattle.ledgers.specs.Join.{below, from_on, join, is_below}
use Rattle.ledgers.specs.Lawfuls.{From-from_on}

find_less : (least : ℕ) (m : List Account) (n : ℕ) → From least m → n < least → find m n ≡ None
find_less least [] n f h = refl
find_less least (a ∷ rest) n (q, s, f) h = rw (ne_eqb a.number n (λ e. omega arith)) (find_less (suc a.number) rest n f (omega arith))

posted_less : (least : ℕ) (m : List Account) (n : ℕ) (x : ℤ) → From least m → n < least → posted m n x ≡ m
posted_less least [] n x f h = refl
posted_less least (a ∷ rest) n x (q, s, f) h = rw (ne_eqb a.number n (λ e. omega arith)) (ap (λ l. a ∷ l) (posted_less (suc a.number) rest n x f (omega arith)))

pub split_at_border : (b : ℕ) (m : List Account) → below b m ++ from_on b m ≡ m
split_at_border b [] = refl
split_at_border b (a ∷ rest) =
    by_test (ltb a.number b) (λ t. cond t (a ∷ below b rest) [] ++ cond t (from_on b rest) (a ∷ rest) ≡ a ∷ rest)
    (λ _. ap (λ l. a ∷ l) (split_at_border b rest))
    (λ _. refl)

find_on : (b : ℕ) (k : List Account) (n : ℕ) → b ≤ n → find (from_on b k) n ≡ find k n
find_on b [] n h = refl
find_on b (a ∷ rest) n h =
    by_test (ltb a.number b) (λ t. find (cond t (from_on b rest) (a ∷ rest)) n ≡ find (a ∷ rest) n)
    (λ e. let lt = ltb-true a.number b e in find_on b rest n h ∙ (rw (ne_eqb a.number n (λ z. omega arith))))
    (λ _. refl)

pub find_low : (b least l : ℕ) (m k : List Account) (n : ℕ) → From least m → From l k → n < b → find (join b m k) n ≡ find m n
find_low b least l [] k n f g h = find_less b (from_on b k) n (From-from_on b b l k (omega arith) g) h
find_low b least l (a ∷ rest) k n (q, s, f) g h =
    by_test (ltb a.number b) (λ t. find (cond t (a ∷ below b rest) [] ++ from_on b k) n ≡ find (a ∷ rest) n)
    (λ _. ap (cond (eqb a.number n) (Some a)) (find_low b (suc a.number) l rest k n f g h))
    (λ e. find_less b (from_on b k) n (From-from_on b b l k (omega arith) g) h ∙ sym (find_less b (a ∷ rest) n (ltb-false a.number b e, s, f) h))

pub find_high : (b : ℕ) (m k : List Account) (n : ℕ) → b ≤ n → find (join b m k) n ≡ find k n
find_high b [] k n h = find_on b k n h
find_high b (a ∷ rest) k n h =
    by_test (ltb a.number b) (λ t. find (cond t (a ∷ below b rest) [] ++ from_on b k) n ≡ find k n)
    (λ e. let lt = ltb-true a.number b e in rw (ne_eqb a.number n (λ z. omega arith)) (find_high b rest k n h))
    (λ _. find_on b k n h)

posted_on : (b : ℕ) (k : List Account) (n : ℕ) (x : ℤ) → b ≤ n → posted (from_on b k) n x ≡ from_on b (posted k n x)
posted_on b [] n x h = refl
posted_on b (a ∷ rest) n x h =
    by_test (ltb a.number b) (λ t. ltb a.number b ≡ t → posted (cond t (from_on b rest) (a ∷ rest)) n x ≡ from_on b (posted (a ∷ rest) n x))
    (λ _ e. let lt = ltb-true a.number b e in rw (ne_eqb a.number n (λ z. omega arith), e) (posted_on b rest n x h))
    (λ _ e. by_test (eqb a.number n) (λ t. cond t (moved a x ∷ rest) (a ∷ posted rest n x) ≡ from_on b (cond t (moved a x ∷ rest) (a ∷ posted rest n x))) (λ _. rw e) (λ _. rw e))
    refl

pub posted-low : (b least l : ℕ) (m k : List Account) (n : ℕ) (x : ℤ) → From least m → From l k → n < b → posted (join b m k) n x ≡ join b (posted m n x) k
posted-low b least l [] k n x f g h = posted_less b (from_on b k) n x (From-from_on b b l k (omega arith) g) h
posted-low b least l (a ∷ rest) k n x (q, s, f) g h =
    by_test (ltb a.number b) (λ t. ltb a.number b ≡ t → posted (cond t (a ∷ below b rest) [] ++ from_on b k) n x ≡ join b (posted (a ∷ rest) n x) k)
    (λ _ e. by_test (eqb a.number n) (λ t. cond t (moved a x ∷ join b rest k) (a ∷ posted (join b rest k) n x) ≡ join b (cond t (moved a x ∷ rest) (a ∷ posted rest n x)) k)
    (λ _. rw e)
    (λ _. rw e (ap (λ l. a ∷ l) (posted-low b (suc a.number) l rest k n x f g h))))
    (λ _ e. posted_less b (from_on b k) n x (From-from_on b b l k (omega arith) g) h
    ∙ sym (ap (λ z. join b z k) (posted_less b (a ∷ rest) n x (ltb-false a.number b e, s, f) h) ∙ rw e))
    refl

pub posted-high : (b : ℕ) (m k : List Account) (n : ℕ) (x : ℤ) → b ≤ n → posted (join b m k) n x ≡ join b m (posted k n x)
posted-high b [] k n x h = posted_on b k n x h
posted-high b (a ∷ rest) k n x h =
    by_test (ltb a.number b) (λ t. posted (cond t (a ∷ below b rest) [] ++ from_on b k) n x ≡ cond t (a ∷ below b rest) [] ++ from_on b (posted k n x))
    (λ e. let lt = ltb-true a.number b e in rw (ne_eqb a.number n (λ z. omega arith)) (ap (λ l. a ∷ l) (posted-high b rest k n x h)))
    (λ _. posted_on b k n x h)

on_posted : (b least : ℕ) (m : List Account) (n : ℕ) (x : ℤ) → From least m → n < b → from_on b (posted m n x) ≡ from_on b m
on_posted b least [] n x f h = refl
on_posted b least (a ∷ rest) n x (q, s, f) h =
    by_test (ltb a.number b) (λ t. ltb a.number b ≡ t → from_on b (posted (a ∷ rest) n x) ≡ from_on b (a ∷ rest))
    (λ _ e. by_test (eqb a.number n) (λ t. from_on b (cond t (moved a x ∷ rest) (a ∷ posted rest n x)) ≡ from_on b (a ∷ rest))
    (λ _. rw e)
    (λ _. rw e (on_posted b (suc a.number) rest n x f h)))
    (λ _ e. ap (from_on b) (posted_less b (a ∷ rest) n x (ltb-false a.number b e, s, f) h))
    refl

below_posted : (b : ℕ) (k : List Account) (n : ℕ) (x : ℤ) → b ≤ n → below b (posted k n x) ≡ below b k
below_posted b [] n x h = refl
below_posted b (a ∷ rest) n x h =
    by_test (ltb a.number b) (λ t. ltb a.number b ≡ t → below b (posted (a ∷ rest) n x) ≡ cond t (a ∷ below b rest) [])
    (λ _ e. let lt = ltb-true a.number b e in rw (ne_eqb a.number n (λ z. omega arith), e) (ap (λ l. a ∷ l) (below_posted b rest n x h)))
    (λ _ e. by_test (eqb a.number n) (λ t. below b (cond t (moved a x ∷ rest) (a ∷ posted rest n x)) ≡ []) (λ _. rw e) (λ _. rw e))
    refl

-- a posting below the border
module _ (b : ℕ) (m k : List Account) (n : ℕ) (x : ℤ) (f : Lawful m) (g : Lawful k) (h : n < b) where
  pub low_answer : answer (join b m k) n x ≡ answer m n x
  low_answer = ap (λ o. answer_at o n x) (find_low b 0 0 m k n f g h)

  pub low_after : join b (after m n x) k ≡ after (join b m k) n x
  low_after =
      let by_answer : (r : Result (Unit {0}) PostRefused) → join b (if_taken r (posted m n x) m) k ≡ if_taken r (posted (join b m k) n x) (join b m k) =
      λ r. elim r as (λ r. join b (if_taken r (posted m n x) m) k ≡ if_taken r (posted (join b m k) n x) (join b m k)) [ Ok _ ↦ sym (posted-low b 0 0 m k n x f g h) | Err _ ↦ refl ] in
      by_answer (answer m n x) ∙ ap (λ r. if_taken r (posted (join b m k) n x) (join b m k)) (sym low_answer)

  pub low_keeps : from_on b m ≡ from_on b (after m n x)
  low_keeps =
      let by_answer : (r : Result (Unit {0}) PostRefused) → from_on b m ≡ from_on b (if_taken r (posted m n x) m) =
      λ r. elim r as (λ r. from_on b m ≡ from_on b (if_taken r (posted m n x) m)) [ Ok _ ↦ sym (on_posted b 0 m n x f h) | Err _ ↦ refl ] in
      by_answer (answer m n x)

-- a posting from the border on
module _ (b : ℕ) (m k : List Account) (n : ℕ) (x : ℤ) (h : b ≤ n) where
  pub high_answer : answer (join b m k) n x ≡ answer k n x
  high_answer = ap (λ o. answer_at o n x) (find_high b m k n h)

  pub high_after : join b m (after k n x) ≡ after (join b m k) n x
  high_after =
      let by_answer : (r : Result (Unit {0}) PostRefused) → join b m (if_taken r (posted k n x) k) ≡ if_taken r (posted (join b m k) n x) (join b m k) =
      λ r. elim r as (λ r. join b m (if_taken r (posted k n x) k) ≡ if_taken r (posted (join b m k) n x) (join b m k)) [ Ok _ ↦ sym (posted-high b m k n x h) | Err _ ↦ refl ] in
      by_answer (answer k n x) ∙ ap (λ r. if_taken r (posted (join b m k) n x) (join b m k)) (sym high_answer)

  pub high_keeps : below b k ≡ below b (after k n x)
  high_keeps =
      let by_answer : (r : Result (Unit {0}) PostRefused) → below b k ≡ below b (if_taken r (posted k n x) k) =
      λ r. elim r as (λ r. below b k ≡ below b (if_taken r (posted k n x) k)) [ Ok _ ↦ sym (below_posted b k n x h) | Err _ ↦ refl ] in
      by_answer (answer k n x)

-- how many
pub split-length : (b : ℕ) (m : List Account) → length (below b m) + length (from_on b m) ≡ length m
split-length b m = sym (length-append (below b m) (from_on b m)) ∙ ap length (split_at_border b m)

pub join-length : (b : ℕ) (m k : List Account) → length (join b m k) ≡ length (below b m) + (length k - length (below b k))
join-length b m k = let s = split-length b k in let e = length-append (below b m) (from_on b k) in omega arith

-- by places
number-left : (xs ys : List Account) (p : ℕ) → p ≤ length xs → number_at (xs ++ ys) p ≡ number_at xs p
number-left xs ys zero h = refl
number-left xs ys (suc p) h =
    let long = length-append xs ys in
    number_in (xs ++ ys) (suc p) (omega arith) (omega arith) ∙ ap (λ a. Some a.number) (get_or_append_left xs ys blank (suc p - 1) (omega arith)) ∙ sym (number_in xs (suc p) (omega arith) h)

number-right : (xs ys : List Account) (p : ℕ) → number_at (xs ++ ys) (length xs + suc p) ≡ number_at ys (suc p)
number-right xs ys p =
    let long = length-append xs ys in
    let q = length xs + suc p in
    let e : q - 1 ≡ length xs + (suc p - 1) = omega arith in
    by_test (leb (suc p) (length ys)) (λ b. number_at (xs ++ ys) q ≡ number_at ys (suc p))
    (λ t. let le = leb-true (suc p) (length ys) t in
    number_in (xs ++ ys) q (omega arith) (omega arith) ∙ ap (λ j. Some (get_or (xs ++ ys) j blank).number) e ∙ ap (λ a. Some a.number) (get_or-append-add xs ys (suc p - 1) blank) ∙ sym (number_in ys (suc p) (omega arith) le))
    (λ t. let lt = leb-false (suc p) (length ys) t in number_past (xs ++ ys) q (omega arith) ∙ sym (number_past ys (suc p) lt))

pub place-low : (b : ℕ) (m k : List Account) (p : ℕ) → p ≤ length (below b m) → number_at (join b m k) p ≡ number_at m p
place-low b m k p h = number-left (below b m) (from_on b k) p h ∙ sym (number-left (below b m) (from_on b m) p h) ∙ ap (λ l. number_at l p) (split_at_border b m)

pub place-high : (b : ℕ) (m k : List Account) (p : ℕ) → length (below b m) < p → number_at (join b m k) p ≡ number_at k (p - length (below b m) + length (below b k))
place-high b m k p h =
    let r = p - length (below b m) - 1 in
    let e : p ≡ length (below b m) + suc r = omega arith in
    let d : p - length (below b m) + length (below b k) ≡ length (below b k) + suc r = omega arith in
    ap (number_at (join b m k)) e ∙ number-right (below b m) (from_on b k) r ∙ sym (number-right (below b k) (from_on b k) r) ∙ ap (λ l. number_at l (length (below b k) + suc r)) (split_at_border b k) ∙ ap (number_at k) (sym d)

-- an account is below the border exactly when its place is among those that are
below_least : (b least : ℕ) (m : List Account) (i : ℕ) (d : Account) → From least m → i < length m → (get_or m i d).number < b → i < length (below b m)
below_least b least [] i d f h lt = absurd (omega arith)
below_least b least (a ∷ rest) zero d f h lt = rw (lt-ltb a.number b lt) (omega arith)
below_least b least (a ∷ rest) (suc i) d (q, s, f) h lt =
    let up : a.number < (get_or rest i d).number = ascends least (a ∷ rest) 0 (suc i) d (q, s, f) (omega arith) h in
    let under : a.number < b = omega arith in
    let again = below_least b (suc a.number) rest i d f (omega arith) lt in
    rw (lt-ltb a.number b under) (omega arith)

from_border : (b : ℕ) (m : List Account) (i : ℕ) (d : Account) → i < length m → b ≤ (get_or m i d).number → length (below b m) ≤ i
from_border b [] i d h le = absurd (omega arith)
from_border b (a ∷ rest) zero d h le = rw (le-ltb a.number b le) (omega arith)
from_border b (a ∷ rest) (suc i) d h le =
    by_test (ltb a.number b) (λ t. length (cond t (a ∷ below b rest) []) ≤ suc i)
    (λ _. let again = from_border b rest i d (omega arith) le in omega arith)
    (λ _. omega arith)

-- what reading a place told
lies_is : (b : ℕ) (m : List Account) (i : ℕ) → i < length m → is_below b (number_at m (i + 1)) ≡ ltb (get_or m i blank).number b
lies_is b m i h =
    let s : i + 1 - 1 ≡ i = omega arith in
    ap (is_below b) (number_in m (i + 1) (omega arith) (omega arith) ∙ ap (λ j. Some (get_or m j blank).number) s)

pub lies_under : (b : ℕ) (m : List Account) (i : ℕ) → Lawful m → i < length m → is_below b (number_at m (i + 1)) ≡ true → i < length (below b m)
lies_under b m i f h e = below_least b 0 m i blank f h (ltb-true (get_or m i blank).number b (sym (lies_is b m i h) ∙ e))

pub lies_over : (b : ℕ) (m : List Account) (i : ℕ) → i < length m → is_below b (number_at m (i + 1)) ≡ false → length (below b m) ≤ i
lies_over b m i h e = from_border b m i blank h (ltb-false (get_or m i blank).number b (sym (lies_is b m i h) ∙ e))

-- the sum
total-append : (xs ys : List Account) → total (xs ++ ys) ≡ total xs +ℤ total ys
total-append [] ys = omega (arith, ints)
total-append (a ∷ xs) ys = let e = total-append xs ys in omega (arith, ints)

pub join-total : (b : ℕ) (m k : List Account) → total (join b m k) ≡ total (below b m) +ℤ total (from_on b k)
join-total b m k = total-append (below b m) (from_on b k)

-- the account under a number
pub join_finds : (b : ℕ) (m k : List Account) (n : ℕ) → Lawful m → Lawful k → find (join b m k) n ≡ cond (ltb n b) (find m n) (find k n)
join_finds b m k n f g =
    by_test (ltb n b) (λ t. find (join b m k) n ≡ cond t (find m n) (find k n))
    (λ e. find_low b 0 0 m k n f g (ltb-true n b e))
    (λ e. find_high b m k n (ltb-false n b e))

-- a joined model taken apart again
none_below : (b : ℕ) (k : List Account) → below b (from_on b k) ≡ []
none_below b [] = refl
none_below b (a ∷ rest) =
    by_test (ltb a.number b) (λ t. ltb a.number b ≡ t → below b (cond t (from_on b rest) (a ∷ rest)) ≡ []) (λ _ _. none_below b rest) (λ _ e. rw e) refl

all_from : (b : ℕ) (k : List Account) → from_on b (from_on b k) ≡ from_on b k
all_from b [] = refl
all_from b (a ∷ rest) =
    by_test (ltb a.number b) (λ t. ltb a.number b ≡ t → from_on b (cond t (from_on b rest) (a ∷ rest)) ≡ cond t (from_on b rest) (a ∷ rest)) (λ _ _. all_from b rest) (λ _ e. rw e) refl

below_join : (b : ℕ) (m k : List Account) → below b (join b m k) ≡ below b m
below_join b [] k = none_below b k
below_join b (a ∷ rest) k =
    by_test (ltb a.number b) (λ t. ltb a.number b ≡ t → below b (cond t (a ∷ below b rest) [] ++ from_on b k) ≡ cond t (a ∷ below b rest) [])
    (λ _ e. rw e (ap (λ l. a ∷ l) (below_join b rest k)))
    (λ _ e. none_below b k)
    refl

from_join_on : (b : ℕ) (m k : List Account) → from_on b (join b m k) ≡ from_on b k
from_join_on b [] k = all_from b k
from_join_on b (a ∷ rest) k =
    by_test (ltb a.number b) (λ t. ltb a.number b ≡ t → from_on b (cond t (a ∷ below b rest) [] ++ from_on b k) ≡ from_on b k)
    (λ _ e. rw e (from_join_on b rest k))
    (λ _ e. all_from b k)
    refl

pub halves_stay : (b : ℕ) (m m' k k' : List Account) → join b m' k' ≡ join b m k → from_on b m ≡ from_on b m' → below b k ≡ below b k' → (m' ≡ m) × (k' ≡ k)
halves_stay b m m' k k' e f g =
    let low : below b m' ≡ below b m = sym (below_join b m' k') ∙ ap (below b) e ∙ below_join b m k in
    let high : from_on b k' ≡ from_on b k = sym (from_join_on b m' k') ∙ ap (from_on b) e ∙ from_join_on b m k in (
      sym (split_at_border b m') ∙ ap (λ l. l ++ from_on b m') low ∙ ap (λ l. below b m ++ l) (sym f) ∙ split_at_border b m,
      sym (split_at_border b k') ∙ ap (λ l. l ++ from_on b k') (sym g) ∙ ap (λ l. below b k ++ l) high ∙ split_at_border b k,
    )
