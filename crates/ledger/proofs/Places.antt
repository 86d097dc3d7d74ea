-- A model by places: what stands where, what a posting writes, and how far its sum can go.
use Rattle.std.proofs.Common.{◌≡◌, ℕ, zero, suc, ◌+◌, ◌-◌, ◌<◌, ◌≤◌, List, [], ◌∷◌, length, get_or, drop, set, ℤ, pos, ◌+ℤ◌, Some, None, sym, refl, ap, ◌∙◌, arith, lt-ltb, eq-eqb, ne_eqb, le-leb}
use borrow.Author.Tests.{lt-leb}
use Rattle.std.proofs.lemmas.List.{drop_more, drop_all}
use Rattle.std.proofs.lemmas.Int.{ints}
use Rattle.std.specs.Option.{option_map}
use Rattle.ledger.specs.declared.account.Account.{Account}
use Rattle.ledger.specs.Model.{numbers, blank, Sound, From, Lawful, find, moved, posted, number_at, balance_of, total}

pub number_in : (m : List Account) (p : ℕ) → 0 < p → p ≤ length m → number_at m p ≡ Some (get_or m (p - 1) blank).number
number_in m p h k = rw (lt-ltb 0 p h, le-leb p (length m) k)

pub number_past : (m : List Account) (p : ℕ) → length m < p → number_at m p ≡ None
number_past m p h = rw (lt-ltb 0 p (omega arith), lt-leb p (length m) h)

-- what reading a place tells
pub number_there : (m : List Account) (i : ℕ) → i < length m → number_at m (i + 1) ≡ Some (get_or m i blank).number
number_there m i h =
    let s : i + 1 - 1 ≡ i = omega arith in
    number_in m (i + 1) (omega arith) (omega arith) ∙ ap (λ j. Some (get_or m j blank).number) s

-- the first account with a number
pub found_at : (m : List Account) (i n : ℕ) (d : Account) → i < length m → (get_or m i d).number ≡ n → ((k : ℕ) → k < i → (get_or m k d).number ≡ n → ⊥) → find m n ≡ Some (get_or m i d)
found_at [] i n d h e before = absurd (omega arith)
found_at (a ∷ rest) zero n d h e before = rw (eq-eqb a.number n e)
found_at (a ∷ rest) (suc i) n d h e before =
    rw (ne_eqb a.number n (before 0 (omega arith))) (found_at rest i n d (omega arith) e (λ k lt. before (suc k) (omega arith)))

pub posted_at : (m : List Account) (i n : ℕ) (d : Account) (x : ℤ) → i < length m → (get_or m i d).number ≡ n → ((k : ℕ) → k < i → (get_or m k d).number ≡ n → ⊥) → posted m n x ≡ set m i (moved (get_or m i d) x)
posted_at [] i n d x h e before = absurd (omega arith)
posted_at (a ∷ rest) zero n d x h e before = rw (eq-eqb a.number n e)
posted_at (a ∷ rest) (suc i) n d x h e before =
    rw (ne_eqb a.number n (before 0 (omega arith))) (ap (λ l. a ∷ l) (posted_at rest i n d x (omega arith) e (λ k lt. before (suc k) (omega arith))))

pub not_found : (m : List Account) (n : ℕ) (d : Account) → ((k : ℕ) → k < length m → (get_or m k d).number ≡ n → ⊥) → find m n ≡ None
not_found [] n d none = refl
not_found (a ∷ rest) n d none = rw (ne_eqb a.number n (none 0 (omega arith))) (not_found rest n d (λ k lt. none (suc k) (omega arith)))

-- a lawful model: its accounts are sound and ascend, and there are fewer than numbers
from_least : (least : ℕ) (m : List Account) (i : ℕ) (d : Account) → From least m → i < length m → least ≤ (get_or m i d).number
from_least least [] i d f h = absurd (omega arith)
from_least least (a ∷ rest) zero d (q, s, f) h = q
from_least least (a ∷ rest) (suc i) d (q, s, f) h = let r = from_least (suc a.number) rest i d f (omega arith) in omega arith

pub ascends : (least : ℕ) (m : List Account) (k i : ℕ) (d : Account) → From least m → k < i → i < length m → (get_or m k d).number < (get_or m i d).number
ascends least [] k i d f lt h = absurd (omega arith)
ascends least (a ∷ rest) k zero d f lt h = absurd (omega arith)
ascends least (a ∷ rest) zero (suc i) d (q, s, f) lt h = let r = from_least (suc a.number) rest i d f (omega arith) in omega arith
ascends least (a ∷ rest) (suc k) (suc i) d (q, s, f) lt h = ascends (suc a.number) rest k i d f (omega arith) (omega arith)

pub sound_at : (least : ℕ) (m : List Account) (i : ℕ) (d : Account) → From least m → i < length m → Sound (get_or m i d)
sound_at least [] i d f h = absurd (omega arith)
sound_at least (a ∷ rest) zero d (q, s, f) h = s
sound_at least (a ∷ rest) (suc i) d (q, s, f) h = sound_at (suc a.number) rest i d f (omega arith)

from_length : (least : ℕ) (m : List Account) → From least m → least ≤ numbers → length m + least ≤ numbers
from_length least [] f h = omega arith
from_length least (a ∷ rest) (q, s, f) h =
    let lt = s.numbered in
    let k = from_length (suc a.number) rest f (omega arith) in
    omega arith

pub lawful-length : (m : List Account) → Lawful m → length m ≤ numbers
lawful-length m f = let k = from_length 0 m f (omega arith) in omega arith

-- the account at a place is the one that is open under its number
pub found_there : (m : List Account) (i : ℕ) (d : Account) → Lawful m → i < length m → find m (get_or m i d).number ≡ Some (get_or m i d)
found_there m i d f h = found_at m i (get_or m i d).number d h refl (λ k lt e. let r = ascends 0 m k i d f lt h in omega arith)

-- the sum, one account more
pub total_more : (m : List Account) (i : ℕ) (d : Account) (sum next rest : ℤ) → i < length m → sum +ℤ total (drop i m) ≡ rest → next ≡ sum +ℤ (get_or m i d).balance → next +ℤ total (drop (i + 1) m) ≡ rest
total_more m i d sum next rest h e n =
    let s : total (drop i m) ≡ (get_or m i d).balance +ℤ total (drop (i + 1) m) = ap total (drop_more m i d h) in
    omega (arith, ints)

pub total_all : (m : List Account) (i : ℕ) (sum rest : ℤ) → length m ≤ i → sum +ℤ total (drop i m) ≡ rest → sum ≡ rest
total_all m i sum rest h e =
    let s : total (drop i m) ≡ pos 0 = ap total (drop_all i m h) in
    omega (arith, ints)

-- what reading the balance of the account at a place tells
pub balance_there : (m : List Account) (i n : ℕ) → Lawful m → i < length m → number_at m (i + 1) ≡ Some n → balance_of m n ≡ Some (get_or m i blank).balance
balance_there m i n f h e =
    let k : Some n ≡ Some (get_or m i blank).number = sym e ∙ number_there m i h in
    let s : n ≡ (get_or m i blank).number = cc in
    ap (balance_of m) s ∙ ap (option_map (λ (a : Account). a.balance)) (found_there m i blank f h)
