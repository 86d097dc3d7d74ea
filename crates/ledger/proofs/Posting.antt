-- What posting does to a model: its answer, the laws that stay, the sum that moves, and how a posting is taken back.
use Rattle.std.proofs.Common.{◌≡◌, ℕ, suc, Bool, true, false, cond, eqb, List, [], ◌∷◌, ℤ, pos, ◌+ℤ◌, neg_ℤ, ◌≤ℤ◌, Some, None, Ok, Err, Option, Result, sym, refl, ap, ◌∙◌, arith, ne_eqb, eqb-true}
use borrow.Author.Tests.{clash}
use lib.IntN.{+ℤ-neg_ℤ_cancel}
use Rattle.std.proofs.lemmas.Int.{ints}
use Rattle.ledger.specs.declared.account.Account.{Account}
use Rattle.ledger.specs.declared.refusal.PostRefused.{PostRefused}
use Rattle.ledger.specs.declared.refusal.PostRefused.TheVariants.{NotOpen, OutOfBounds}
use Rattle.ledger.specs.Model.{Sound, From, Lawful, find, within, moved, answer_at, answer, posted, if_taken, after, total}
use Rattle.ledger.specs.Laws.{Between, Says}

-- the goal at each answer of a test
pub by_test : (b : Bool) (P : Bool → Type 0) → (b ≡ true → P true) → (b ≡ false → P false) → P b
by_test true P t f = t refl
by_test false P t f = f refl

pub within_between : (a : Account) (z : ℤ) → within a z ≡ true → Between a z
within_between a z e = (grind (arith, ints), grind (arith, ints))

pub between_within : (a : Account) (z : ℤ) → Between a z → within a z ≡ true
between_within a z (p, q) = grind (arith, ints)

pub taken_within : (a : Account) (n : ℕ) (x : ℤ) → answer_at (Some a) n x ≡ Ok tt → within a (a.balance +ℤ x) ≡ true
taken_within a n x e = grind arith

pub after_taken : (m : List Account) (n : ℕ) (x : ℤ) → answer m n x ≡ Ok tt → after m n x ≡ posted m n x
after_taken m n x e = rw e

pub after_refused : (m : List Account) (n : ℕ) (x : ℤ) (why : PostRefused) → answer m n x ≡ Err why → after m n x ≡ m
after_refused m n x why e = rw e

-- what holds of the list with the amount and of the list as it was holds of what a posting leaves
pub by_answer : (P : List Account → Type 0) (m : List Account) (n : ℕ) (x : ℤ) → (answer m n x ≡ Ok tt → P (posted m n x)) → P m → P (after m n x)
by_answer P m n x taken same =
    let each : (r : Result (Unit {0}) PostRefused) → (r ≡ Ok tt → P (posted m n x)) → P (if_taken r (posted m n x) m) =
    λ r. elim r as (λ r. (r ≡ Ok tt → P (posted m n x)) → P (if_taken r (posted m n x) m)) [ Ok _ ↦ λ t. t refl | Err _ ↦ λ t. same ] in
    each (answer m n x) taken

-- each answer says what holds
module _ (m : List Account) (n : ℕ) (x : ℤ) where
  opened_says : (a : Account) → find m n ≡ Some a → Says m n x (answer_at (Some a) n x)
  opened_says a e =
      by_test (within a (a.balance +ℤ x)) (λ b. Says m n x (cond b (Ok tt) (Err (OutOfBounds n))))
      (λ w. record { account = a; opened = e; between = within_between a (a.balance +ℤ x) w })
      (λ w. record { same = refl; account = a; opened = e; outside = λ h. clash (sym w ∙ between_within a (a.balance +ℤ x) h) })

  found_says : (o : Option Account) → find m n ≡ o → Says m n x (answer_at o n x)
  found_says None e = record { same = refl; absent = e }
  found_says (Some a) e = opened_says a e

  pub answer_says : Says m n x (answer m n x)
  answer_says = found_says (find m n) refl

  outside_within : (a : Account) (z : ℤ) → (Between a z → ⊥) → within a z ≡ false
  outside_within a z h = by_test (within a z) (λ b. within a z ≡ b → within a z ≡ false) (λ _ e. absurd (h (within_between a z e))) (λ _ e. e) refl

  pub says_answer : (r : Result (Unit {0}) PostRefused) → Says m n x r → r ≡ answer m n x
  says_answer (Ok tt) s = sym (ap (λ o. answer_at o n x) s.opened ∙ rw (between_within s.account (s.account.balance +ℤ x) s.between))
  says_answer (Err (NotOpen k)) s = sym (ap (λ o. answer_at o n x) s.absent ∙ ap (λ j. Err (NotOpen j)) (sym s.same))
  says_answer (Err (OutOfBounds k)) s =
      sym (ap (λ o. answer_at o n x) s.opened ∙ rw (outside_within s.account (s.account.balance +ℤ x) s.outside) (ap (λ j. Err (OutOfBounds j)) (sym s.same)))

-- the sum of all balances
pub total-posted : (m : List Account) (n : ℕ) (x : ℤ) → answer m n x ≡ Ok tt → total (posted m n x) ≡ total m +ℤ x
total-posted [] n x e = grind arith
total-posted (a ∷ rest) n x e =
    let again : answer rest n x ≡ Ok tt → total (posted rest n x) ≡ total rest +ℤ x = total-posted rest n x in
    by_test (eqb a.number n) (λ b. answer_at (cond b (Some a) (find rest n)) n x ≡ Ok tt → total (cond b (moved a x ∷ rest) (a ∷ posted rest n x)) ≡ (a.balance +ℤ total rest) +ℤ x)
    (λ _ _. omega (arith, ints))
    (λ _ h. let k = again h in omega (arith, ints))
    e

-- every other account
pub find_posted : (m : List Account) (n : ℕ) (x : ℤ) (k : ℕ) → (k ≡ n → ⊥) → find (posted m n x) k ≡ find m k
find_posted [] n x k ne = refl
find_posted (a ∷ rest) n x k ne =
    by_test (eqb a.number n) (λ b. find (cond b (moved a x ∷ rest) (a ∷ posted rest n x)) k ≡ find (a ∷ rest) k)
    (λ e. rw (ne_eqb a.number k (λ z. ne (sym z ∙ eqb-true a.number n e))))
    (λ _. ap (cond (eqb a.number k) (Some a)) (find_posted rest n x k ne))

-- the laws stay
sound_moved : (a : Account) (n : ℕ) (x : ℤ) → Sound a → answer_at (Some a) n x ≡ Ok tt → Sound (moved a x)
sound_moved a n x s e =
    let b = within_between a (a.balance +ℤ x) (taken_within a n x e) in
    record { numbered = s.numbered; lowest = s.lowest; above = b.0; under = b.1; highest = s.highest }

pub from_posted : (least : ℕ) (m : List Account) (n : ℕ) (x : ℤ) → From least m → answer m n x ≡ Ok tt → From least (posted m n x)
from_posted least [] n x f e = tt
from_posted least (a ∷ rest) n x (k, s, f) e =
    by_test (eqb a.number n) (λ b. answer_at (cond b (Some a) (find rest n)) n x ≡ Ok tt → From least (cond b (moved a x ∷ rest) (a ∷ posted rest n x)))
    (λ _ h. (k, sound_moved a n x s h, f))
    (λ _ h. (k, s, from_posted (suc a.number) rest n x f h))
    e

pub lawful-posted : (m : List Account) (n : ℕ) (x : ℤ) → Lawful m → answer m n x ≡ Ok tt → Lawful (posted m n x)
lawful-posted m n x f e = from_posted 0 m n x f e

-- taken back
moved_back : (a : Account) (x : ℤ) → moved (moved a x) (neg_ℤ x) ≡ a
moved_back a x = ap (λ (z : ℤ). record { number = a.number; balance = z; lower = a.lower; upper = a.upper }) (+ℤ-neg_ℤ_cancel a.balance x)

posted_back : (m : List Account) (n : ℕ) (x : ℤ) → posted (posted m n x) n (neg_ℤ x) ≡ m
posted_back [] n x = refl
posted_back (a ∷ rest) n x =
    by_test (eqb a.number n) (λ b. eqb a.number n ≡ b → posted (cond b (moved a x ∷ rest) (a ∷ posted rest n x)) n (neg_ℤ x) ≡ a ∷ rest)
    (λ _ h. rw h (ap (λ z. z ∷ rest) (moved_back a x)))
    (λ _ h. rw h (ap (λ l. a ∷ l) (posted_back rest n x)))
    refl

back_within : (a : Account) (x : ℤ) → Sound a → within (moved a x) ((a.balance +ℤ x) +ℤ neg_ℤ x) ≡ true
back_within a x s = rw (+ℤ-neg_ℤ_cancel a.balance x) (between_within a a.balance (s.above, s.under))

from_back : (least : ℕ) (m : List Account) (n : ℕ) (x : ℤ) → From least m → answer m n x ≡ Ok tt → answer (posted m n x) n (neg_ℤ x) ≡ Ok tt
from_back least [] n x f e = grind arith
from_back least (a ∷ rest) n x (k, s, f) e =
    by_test (eqb a.number n) (λ b. eqb a.number n ≡ b → answer_at (cond b (Some a) (find rest n)) n x ≡ Ok tt → answer (cond b (moved a x ∷ rest) (a ∷ posted rest n x)) n (neg_ℤ x) ≡ Ok tt)
    (λ _ t h. rw (t, back_within a x s))
    (λ _ t h. rw t (from_back (suc a.number) rest n x f h))
    refl e

-- what was posted can be posted back
pub back_taken : (m : List Account) (n : ℕ) (x : ℤ) → Lawful m → answer m n x ≡ Ok tt → answer (posted m n x) n (neg_ℤ x) ≡ Ok tt
back_taken m n x f e = from_back 0 m n x f e

-- and leaves all as it was
pub taken_back : (m : List Account) (n : ℕ) (x : ℤ) → Lawful m → answer m n x ≡ Ok tt → after (posted m n x) n (neg_ℤ x) ≡ m
taken_back m n x f e = rw (back_taken m n x f e) (posted_back m n x)

-- an amount that is taken is at most the width of the widest bounds
from_small : (least : ℕ) (m : List Account) (n : ℕ) (x : ℤ) → From least m → answer m n x ≡ Ok tt → (neg_ℤ (pos 20000000000000000) ≤ℤ x) × (x ≤ℤ pos 20000000000000000)
from_small least [] n x f e = grind arith
from_small least (a ∷ rest) n x (k, s, f) e =
    by_test (eqb a.number n) (λ b. answer_at (cond b (Some a) (find rest n)) n x ≡ Ok tt → (neg_ℤ (pos 20000000000000000) ≤ℤ x) × (x ≤ℤ pos 20000000000000000))
    (λ _ h. let t = sound_moved a n x s h in (omega (arith, ints), omega (arith, ints)))
    (λ _ h. from_small (suc a.number) rest n x f h)
    e

pub taken_small : (m : List Account) (n : ℕ) (x : ℤ) → Lawful m → answer m n x ≡ Ok tt → (neg_ℤ (pos 20000000000000000) ≤ℤ x) × (x ≤ℤ pos 20000000000000000)
taken_small m n x f e = from_small 0 m n x f e
