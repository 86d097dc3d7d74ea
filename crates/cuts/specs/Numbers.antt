-- The numbers of an interval: one for each entry, 0 for those that are not of the interval.
use Rattle.std.specs.Prelude.{ℕ, cond, List, [], ◌∷◌, ℤ, pos, ◌+ℤ◌}
use Rattle.market.specs.Signed.{signed}
use Rattle.cuts.specs.Rounding.{nearest}
use Rattle.market.specs.Kinds.{Kind}

-- the rounded number of an entry
abbrev pub number : {X : Type 0} → Kind X → ℕ → X → ℕ → ℕ
number kind i x fill = cond (kind.covers x i) (nearest fill) 0

-- the rounded numbers of entries with their fills
abbrev pub rounded_numbers : {X : Type 0} → Kind X → ℕ → List X → List ℕ → List ℕ
rounded_numbers kind i [] fs = []
rounded_numbers kind i (x ∷ xs) [] = []
rounded_numbers kind i (x ∷ xs) (f ∷ fs) = number kind i x f ∷ rounded_numbers kind i xs fs

-- sells less buys
abbrev pub net : {X : Type 0} → Kind X → List X → List ℕ → ℤ
net kind [] ns = pos 0
net kind (x ∷ xs) [] = pos 0
net kind (x ∷ xs) (n ∷ ns) = signed (kind.side x) n +ℤ net kind xs ns
