-- Who is cut in a stage.
use Rattle.std.specs.Prelude.{ℕ, ◌+◌, Bool, cond, not, ◌&&◌, List, [], ◌∷◌, ℤ, pos, int_lt, nat_lt}
use Rattle.market.specs.declared.records.Side.{Side}
use Rattle.market.specs.declared.records.Side.TheVariants.{Sell, Buy}
use Rattle.cuts.specs.declared.gather.Filled.{Filled}
use Rattle.cuts.specs.declared.gather.Filled.TheVariants.{Partly, Full}
use Rattle.cuts.specs.declared.gather.Stage.{Stage}
use Rattle.cuts.specs.Rounding.{nearest}
use Rattle.market.specs.Bounds.{full}
use Rattle.market.specs.Kinds.{Kind}

-- A positive gap cuts sells, a negative one buys, and none nobody.
abbrev pub cuts_side : ℤ → Side → Bool
cuts_side gap Sell = int_lt (pos 0) gap
cuts_side gap Buy = int_lt gap (pos 0)

-- partly filled or full, by the fill as it stands and not rounded, as a stage asks
abbrev pub filled_so : Filled → ℕ → ℤ → Bool
filled_so Partly fill quantity = not (full quantity fill)
filled_so Full fill quantity = full quantity fill

-- of the interval and of the side that is cut
abbrev pub cut_here : {X : Type 0} → Kind X → ℕ → ℤ → X → Bool
cut_here kind i gap x = kind.covers x i && cuts_side gap (kind.side x)

-- with at least one rounded step, and partly filled or full as the stage asks
abbrev pub holds_some : Filled → ℕ → ℤ → Bool
holds_some filled fill quantity = nat_lt 0 (nearest fill) && filled_so filled fill quantity

-- a candidate of the stage
abbrev pub eligible : {X : Type 0} → Kind X → Stage → X → ℕ → Bool
eligible kind s x fill = cut_here kind s.interval s.gap x && holds_some s.filled fill (kind.quantity x)

-- the candidates among entries with their fills, the first of them at the place k
abbrev pub candidates : {X C : Type 0} → Kind X → (X → ℕ → ℕ → C) → Stage → List X → List ℕ → ℕ → List C
candidates kind stands s [] fs k = []
candidates kind stands s (x ∷ xs) [] k = []
candidates kind stands s (x ∷ xs) (f ∷ fs) k =
    cond (eligible kind s x f) (stands x (nearest f) k ∷ candidates kind stands s xs fs (k + 1)) (candidates kind stands s xs fs (k + 1))
