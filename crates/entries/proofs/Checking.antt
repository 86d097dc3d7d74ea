-- The checks of settling, and what they come to.
use Rattle.std.proofs.Common.{◌≡◌, ℕ, ◌+◌, Bool, true, false, cond, ◌&&◌, List, ◌++◌, length, take, ℤ, Some, None, Option, ap, ◌∙◌, arith}
use Rattle.std.proofs.lemmas.List.{take_at}
use Rattle.cuts.proofs.Cutting.{length_settled}
use Rattle.cuts.specs.Settled.{sizes_fit, lists_fit}
use Rattle.entries.specs.Settles.{Settlement, WorkLengths, settle_numbers, SizedFor}
use Rattle.std.proofs.lemmas.Bool.Decides.{nat_tests}

-- the cuts find all their slices long enough
pub sizes : (x : Settlement) (w : WorkLengths) → SizedFor x w → (sizes_fit (length x.orders) (length x.order_fills) (length x.blocks) (length x.block_fills) w.numbers && lists_fit (length x.orders) w.orders (length x.blocks) w.blocks) ≡ true
sizes x w s = grind (arith, nat_tests, s.orders, s.blocks, s.order_fills, s.block_fills, s.work, s.order_room, s.block_room)

-- what is unwrapped of an answer that is given where a test passes
pub some_is : (b : Bool) (o : Option ℤ) (v z : ℤ) → b ≡ true → o ≡ Some v → o ≡ cond b (Some z) None → v ≡ z
some_is true o v z e p q = cc
some_is false o v z e p q = let w : ◌≡◌ {A = ℕ} 0 1 = cc in absurd (omega arith)

-- a number is settled for each entry
pub settled_long : (x : Settlement) (w : WorkLengths) → SizedFor x w → length (settle_numbers x) ≡ length x.orders + length x.blocks
unfolding settle_numbers
settled_long x w s = length_settled x.orders x.order_fills x.blocks x.block_fills x.interval x.by.rounded s.order_fills s.block_fills

-- and they stand in front
pub front_is : (x : Settlement) (w : WorkLengths) → SizedFor x w → (ns rest : List ℕ) → ns ≡ settle_numbers x ++ rest → take (length x.orders + length x.blocks) ns ≡ settle_numbers x
front_is x w s ns rest e = ap (take (length x.orders + length x.blocks)) e ∙ take_at (settle_numbers x) rest _ (settled_long x w s)
