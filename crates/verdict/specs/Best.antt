-- A passed paper among all papers on the same book and day that fill the blocks alike.
use Rattle.std.specs.Prelude.{◌≡◌, ℕ, List, ℤ, ◌≤ℤ◌, Ok, Err, Result}
use Rattle.market.specs.declared.refusal.Refusal.{Refusal}
use Rattle.market.specs.declared.records.Order.{Order}
use Rattle.market.specs.declared.records.Block.{Block}
use Rattle.market.specs.declared.records.Interval.{Interval}
use Rattle.std.specs.List.{AllZip}
use Rattle.verdict.specs.Balance.{welfare}
use Rattle.verdict.specs.Passes.{WithinQuantity, Balanced, Passes}

-- other fills of the orders beside the same fills of the blocks: none above its quantity, and every interval balances
pub record Rival (day : List Interval) (os : List Order) (hs : List ℕ) (bs : List Block) (gs : List ℕ) : Type 0 where
  pub within : AllZip (λ o. WithinQuantity o.quantity) os hs
  pub balanced : Balanced day os hs bs gs

-- no rival has more welfare, and a rival has as much exactly when it keeps every rule too
abbrev pub Best : List Interval → List Order → List ℕ → List Block → List ℕ → Type 0
Best day os fs bs gs =
    (hs : List ℕ) → Rival day os hs bs gs →
    (welfare os hs bs gs ≤ℤ welfare os fs bs gs)
    × (welfare os hs bs gs ≡ welfare os fs bs gs → Passes day os hs bs gs)
    × (Passes day os hs bs gs → welfare os hs bs gs ≡ welfare os fs bs gs)

-- a verdict that passes a paper passes the best one
abbrev pub BestIfPassed : List Interval → List Order → List ℕ → List Block → List ℕ → Result ℤ Refusal → Type 0
BestIfPassed day os fs bs gs (Ok w) = Best day os fs bs gs
BestIfPassed day os fs bs gs (Err e) = Unit {0}
