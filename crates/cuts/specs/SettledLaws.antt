-- The laws of the settled numbers.
use Rattle.std.specs.Prelude.{◌≡◌, ℕ, ◌+◌, ◌-◌, ◌*◌, ◌≤◌, false, List, length, ℤ, pos, negsuc, sum, slice_index, slice_index_or, unsigned_abs}
use Rattle.market.specs.declared.records.Side.{Side}
use Rattle.market.specs.declared.records.Side.TheVariants.{Sell, Buy}
use Rattle.market.specs.declared.records.Order.{Order}
use Rattle.market.specs.declared.records.Block.{Block}
use Rattle.cuts.specs.declared.gather.Filled.{Filled}
use Rattle.cuts.specs.declared.gather.Filled.TheVariants.{Partly, Full}
use Rattle.cuts.specs.Rounding.{nearest}
use Rattle.market.specs.Kinds.{Kind, orders, blocks}
use Rattle.cuts.specs.Eligible.{cut_here}
use Rattle.market.specs.Signed.{signed}
use Rattle.cuts.specs.Numbers.{rounded_numbers}
use Rattle.cuts.specs.Stages.{held, open_cuts}
use Rattle.cuts.specs.Settled.{order_places, block_places, stage_of, gap_of, settled_orders, settled_blocks, remainder_of}

-- the side that a gap cuts
abbrev pub cut_side : ℤ → Side
cut_side (pos n) = Sell
cut_side (negsuc n) = Buy

-- the open cuts of the two stages of a kind, of which the places in rank order are given, before any cut
abbrev pub kind_open : (Filled → List ℕ) → List ℕ → ℕ
kind_open places ns = open_cuts (held (places Partly) ns) + open_cuts (held (places Full) ns)

-- the open cuts of the four stages of an interval, before any cut, added up
unfoldable pub open_cuts_of : List Order → List ℕ → List Block → List ℕ → ℕ → ℤ → ℕ
open_cuts_of os fs bs gs i r =
    kind_open (λ f. order_places os fs (stage_of i (gap_of os fs bs gs i r) f)) (rounded_numbers orders i os fs)
    + kind_open (λ f. block_places bs gs (stage_of i (gap_of os fs bs gs i r) f)) (rounded_numbers blocks i bs gs)

-- Of the rounded numbers ns of the entries xs, the cuts of an interval with that gap leave ms.
pub record CutRightly {X : Type 0} (kind : Kind X) (xs : List X) (i : ℕ) (gap : ℤ) (ns ms : List ℕ) : Type 0 where
  -- nothing is raised, and who had at least one step keeps at least one
  pub fewer : (k : ℕ) → slice_index ms k ≤ slice_index ns k
  pub least : (k : ℕ) → 1 ≤ slice_index ns k → 1 ≤ slice_index ms k
  -- an entry that is not of the interval or not of the side that is cut does not change
  pub others : (k : ℕ) → ((x : X) → cut_here kind i gap (slice_index_or xs k x) ≡ false) → slice_index ms k ≡ slice_index ns k

-- What the settled numbers and the remainder of an interval come to.
pub record Settles (os : List Order) (fs : List ℕ) (bs : List Block) (gs : List ℕ) (i : ℕ) (r : ℤ) : Type 0 where
  -- The remainder has the sign of the gap and is what the open cuts do not reach of it.
  pub remainder : remainder_of os fs bs gs i r ≡ signed (cut_side (gap_of os fs bs gs i r)) (unsigned_abs (gap_of os fs bs gs i r) - open_cuts_of os fs bs gs i r)
  -- So it is 0 exactly when the open cuts reach the gap.
  pub reached : remainder_of os fs bs gs i r ≡ pos 0 → unsigned_abs (gap_of os fs bs gs i r) ≤ open_cuts_of os fs bs gs i r
  pub reaches : unsigned_abs (gap_of os fs bs gs i r) ≤ open_cuts_of os fs bs gs i r → remainder_of os fs bs gs i r ≡ pos 0
  -- The steps lost add up to the cuts made.
  pub lost : (sum (settled_orders os fs bs gs i r) + sum (settled_blocks os fs bs gs i r)) + (unsigned_abs (gap_of os fs bs gs i r) - unsigned_abs (remainder_of os fs bs gs i r))
      ≡ sum (rounded_numbers orders i os fs) + sum (rounded_numbers blocks i bs gs)
  -- No number is above its rounded fill, and the remainder is small where the fills are.
  pub orders_most : (k : ℕ) → slice_index (settled_orders os fs bs gs i r) k ≤ nearest (slice_index fs k)
  pub blocks_most : (k : ℕ) → slice_index (settled_blocks os fs bs gs i r) k ≤ nearest (slice_index gs k)
  pub small : (m : ℕ) → ((k : ℕ) → nearest (slice_index fs k) ≤ m) → ((k : ℕ) → nearest (slice_index gs k) ≤ m) → unsigned_abs (remainder_of os fs bs gs i r) ≤ (length fs + length gs) * m + unsigned_abs r
  pub orders_right : CutRightly orders os i (gap_of os fs bs gs i r) (rounded_numbers orders i os fs) (settled_orders os fs bs gs i r)
  pub blocks_right : CutRightly blocks bs i (gap_of os fs bs gs i r) (rounded_numbers blocks i bs gs) (settled_blocks os fs bs gs i r)
