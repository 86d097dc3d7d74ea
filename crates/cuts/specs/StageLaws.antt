-- The laws of a stage.
use Rattle.std.specs.Prelude.{◌≡◌, ℕ, ◌+◌, ◌-◌, ◌≤◌, min, ◌≢◌, List, [], ◌∷◌, sum, slice_index}
use Rattle.std.specs.List.{AllByRecursion as Every}
use Rattle.cuts.specs.Stages.{held, open_cuts}

-- Of the numbers ns, a stage with candidates at the places ps and that gap leaves ms, and so much of the gap.
pub record OnlyCuts (ps ns : List ℕ) (gap : ℕ) (ms : List ℕ) (left : ℕ) : Type 0 where
  -- the steps lost add up to the cuts made
  pub within : left ≤ gap
  pub lost : sum ms + (gap - left) ≡ sum ns
  -- nothing is raised, and nothing that was at least one step falls below one
  pub fewer : (k : ℕ) → slice_index ms k ≤ slice_index ns k
  pub least : (k : ℕ) → 1 ≤ slice_index ns k → 1 ≤ slice_index ms k
  -- no other entry changes
  pub others : (k : ℕ) → Every (λ p. p ≢ k) ps → slice_index ms k ≡ slice_index ns k

-- no two of the places are the same
abbrev pub Apart : List ℕ → Type 0
Apart [] = Unit {0}
Apart (p ∷ ps) = Every (λ q. q ≢ p) ps × Apart ps

-- Candidates stand apart, and each holds at least one step.
pub record Candidates (ps ns : List ℕ) : Type 0 where
  pub apart : Apart ps
  pub some : Every (λ p. 1 ≤ slice_index ns p) ps

-- Then the cuts made are the lesser of the open cuts and the gap.
abbrev pub OpenCutsLaw : List ℕ → List ℕ → ℕ → ℕ → Type 0
OpenCutsLaw ps ns gap left = Candidates ps ns → gap - left ≡ min gap (open_cuts (held ps ns))
