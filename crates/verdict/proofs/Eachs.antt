-- What holds of every entry, at one of them.
use Rattle.std.proofs.Common.{◌≡◌, ℕ, zero, suc, ◌<◌, List, [], ◌∷◌, length, get_or, refl, ap, arith}
use Rattle.std.specs.List.{AllByRecursion as Every}
use Rattle.std.specs.List.{AllZip}

pub each_at : {X : Type 0} (Keeps : X → ℕ → Type 0) (xs : List X) (fs : List ℕ) (i : ℕ) (d : X) → AllZip Keeps xs fs → i < length xs → Keeps (get_or xs i d) (get_or fs i 0)
each_at Keeps [] fs i d e h = absurd (omega arith)
each_at Keeps (x ∷ xs) [] i d e h = absurd e
each_at Keeps (x ∷ xs) (f ∷ fs) zero d e h = e.0
each_at Keeps (x ∷ xs) (f ∷ fs) (suc i) d e h = each_at Keeps xs fs i d e.1 (omega arith)

pub each_length : {X : Type 0} (Keeps : X → ℕ → Type 0) (xs : List X) (fs : List ℕ) → AllZip Keeps xs fs → length xs ≡ length fs
each_length Keeps [] [] e = refl
each_length Keeps [] (f ∷ fs) e = absurd e
each_length Keeps (x ∷ xs) [] e = absurd e
each_length Keeps (x ∷ xs) (f ∷ fs) e = ap suc (each_length Keeps xs fs e.1)

-- a rule that asks nothing
pub each_none : {X : Type 0} (xs : List X) (fs : List ℕ) → length xs ≡ length fs → AllZip (λ x f. Unit {0}) xs fs
each_none [] [] s = tt
each_none [] (f ∷ fs) s = absurd (omega arith)
each_none (x ∷ xs) [] s = absurd (omega arith)
each_none (x ∷ xs) (f ∷ fs) s = (tt, each_none xs fs (omega arith))

pub each_map : {X : Type 0} (P Q : X → ℕ → Type 0) → ((x : X) (f : ℕ) → P x f → Q x f) → (xs : List X) (fs : List ℕ) → AllZip P xs fs → AllZip Q xs fs
each_map P Q h [] [] e = tt
each_map P Q h [] (f ∷ fs) e = absurd e
each_map P Q h (x ∷ xs) [] e = absurd e
each_map P Q h (x ∷ xs) (f ∷ fs) e = (h x f e.0, each_map P Q h xs fs e.1)

pub each_both : {X : Type 0} (P Q R : X → ℕ → Type 0) → ((x : X) (f : ℕ) → P x f → Q x f → R x f) → (xs : List X) (fs : List ℕ) → AllZip P xs fs → AllZip Q xs fs → AllZip R xs fs
each_both P Q R h [] [] d e = tt
each_both P Q R h [] (f ∷ fs) d e = absurd d
each_both P Q R h (x ∷ xs) [] d e = absurd d
each_both P Q R h (x ∷ xs) (f ∷ fs) d e = (h x f d.0 e.0, each_both P Q R h xs fs d.1 e.1)

-- what holds of every record holds of it with any fill
pub each_all : {X : Type 0} (P : X → Type 0) (xs : List X) (fs : List ℕ) → length xs ≡ length fs → Every P xs → AllZip (λ x f. P x) xs fs
each_all P [] [] s a = tt
each_all P [] (f ∷ fs) s a = absurd (omega arith)
each_all P (x ∷ xs) [] s a = absurd (omega arith)
each_all P (x ∷ xs) (f ∷ fs) s a = (a.0, each_all P xs fs (omega arith) a.1)

pub all_each : {X : Type 0} (P : X → Type 0) (xs : List X) (fs : List ℕ) → AllZip (λ x f. P x) xs fs → Every P xs
all_each P [] fs e = tt
all_each P (x ∷ xs) [] e = absurd e
all_each P (x ∷ xs) (f ∷ fs) e = (e.0, all_each P xs fs e.1)
