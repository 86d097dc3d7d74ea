-- One stage of cuts: ps has the places of its candidates in rank order, ns the numbers of all entries.
use Rattle.std.specs.Prelude.{ℕ, zero, suc, ◌+◌, ◌-◌, ◌*◌, min, Bool, cond, List, [], ◌∷◌, map, length, ◌==◌, nat_le, nat_lt, slice_index, slice_set}

-- the steps that the candidates hold, in rank order
abbrev pub held : List ℕ → List ℕ → List ℕ
held ps ns = map (λ p. slice_index ns p) ps

-- A rule of turns, over what the candidates hold and the rank of the one whose turn it is: whether the stage is over
-- though a gap is left, and who loses a step where it is not.
pub record Rule : Type 0 where
  pub over : List ℕ → ℕ → Bool
  pub loses : List ℕ → ℕ → ℕ

-- The rule of the auction: the one whose turn it is loses a step, and the stage is over when it holds no more than one.
abbrev pub last_step : Rule
last_step = record { over = λ qs t. nat_le (slice_index qs t) 1; loses = λ qs t. t }

-- whose turn follows that of t, among n: the next in rank, round after round
abbrev pub next_turn : ℕ → ℕ → ℕ
next_turn n t = cond (nat_lt (t + 1) n) (t + 1) 0

-- the numbers with one step less at p
abbrev pub one_less : List ℕ → ℕ → List ℕ
one_less ns p = slice_set ns p (slice_index ns p - 1)

-- what a stage leaves: the numbers, and the gap
pub record Cut : Type 0 where
  pub numbers : List ℕ
  pub left : ℕ

-- The turns from that of t on, to the end: the gap is met, or the rule says that the stage is over.
abbrev pub turns : Rule → List ℕ → ℕ → List ℕ → ℕ → Cut
turns rule ps t ns zero = record { numbers = ns; left = 0 }
turns rule ps t ns (suc gap) =
    cond (rule.over (held ps ns) t) (record { numbers = ns; left = suc gap })
    (turns rule ps (next_turn (length ps) (rule.loses (held ps ns) t)) (one_less ns (slice_index ps (rule.loses (held ps ns) t))) gap)

-- A stage is the turns from that of the first in rank.
abbrev pub stage_cut : Rule → List ℕ → List ℕ → ℕ → Cut
stage_cut rule ps ns gap = turns rule ps 0 ns gap

-- the smallest quantity, 0 without candidates
abbrev pub smallest : List ℕ → ℕ
smallest [] = 0
smallest (x ∷ []) = x
smallest (x ∷ y ∷ ys) = min x (smallest (y ∷ ys))

-- how many stand before the first that holds m
abbrev pub ahead : ℕ → List ℕ → ℕ
ahead m [] = 0
ahead m (x ∷ xs) = cond (x == m) 0 (suc (ahead m xs))

-- The open cuts of candidates that hold qs: n × (m − 1) + (j − 1), where the j-th is the first that holds the smallest quantity m.
abbrev pub open_cuts : List ℕ → ℕ
open_cuts qs = length qs * (smallest qs - 1) + ahead (smallest qs) qs
