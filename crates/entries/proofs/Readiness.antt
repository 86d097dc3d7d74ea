-- What the checks of settling come to, where they pass.
use Rattle.std.proofs.Common.{◌≡◌, ℕ, ◌+◌, ◌<◌, ◌≤◌, true, List, [], ◌∷◌, length, get_or, ℤ, pos, neg_ℤ, unsigned_abs, Ok, sym, ⊎_elim, arith, w32, SFits}
use borrow.Author.Differences.{ints, abs_is}
use Rattle.std.proofs.lemmas.Int.{fits_signed_from_abs}
use Rattle.std.proofs.lemmas.List.{get_or_past}
use Rattle.std.proofs.lemmas.Bool.{and_parts, cases_lt}
use Rattle.std.proofs.lemmas.Bool.Decides.{nat_tests}
use Rattle.market.specs.declared.refusal.Refusal.TheVariants.{NoInterval, Short}
use Rattle.market.specs.Blank.{no_order, no_block}
use Rattle.market.specs.First.{tests}
use Rattle.market.proofs.Facts.{tests_out, between_two}
use Rattle.verdict.specs.Verdict.{paper_checks, paper_lengths, bounds, quantities}
use Rattle.verdict.proofs.Firsts.{then_ok}
use Rattle.verdict.proofs.Eachs.{each_at}
use Rattle.verdict.proofs.Judging.{sized_from, orders_mild, blocks_mild}
use Rattle.cuts.specs.Rounding.{nearest}
use Rattle.cuts.proofs.Remainders.{settles}
use Rattle.entries.specs.Lawful.{rounded_ok}
use Rattle.entries.specs.Sheet.{Laid}
use Rattle.market.specs.Bounds.{in_day}
use Rattle.entries.specs.Settles.{sheet_ok, room_ok, settle_checks, Settlement, Lengths, WorkLengths, SizedFor, Ready, settle_steps}

-- what holds of the fill of each entry holds of any place of the fills
small_at : {X : Type 0} (d : X) (xs : List X) (fs : List ℕ) → length xs ≡ length fs → ((k : ℕ) → k < length xs → get_or fs k 0 ≤ 1000000) → (k : ℕ) → get_or fs k 0 ≤ 1000000
small_at d xs fs e h k =
    ⊎_elim (λ lt. h k lt) (λ past. let z = get_or_past fs k 0 (omega arith) in omega arith) (cases_lt k (length xs))

-- what the tests of the interval and of the sheet say
pub laid_from : (o b n i size : ℕ) → in_day n (pos i) ≡ true → sheet_ok o b n size ≡ true → Laid o b n i size
laid_from o b n i size e f = record { from = grind (arith, nat_tests); to = grind (arith, nat_tests); room = grind (arith, nat_tests) }

record Roomy (entries : ℕ) (w : WorkLengths) : Type 0 where
  numbers : entries ≤ w.numbers
  orders : entries ≤ w.orders
  blocks : entries ≤ w.blocks

roomy_from : (o b n : ℕ) (l : Lengths) → room_ok o b n l ≡ true → Roomy (o + b) l.work
roomy_from o b n l e = record { numbers = grind (arith, nat_tests); orders = grind (arith, nat_tests); blocks = grind (arith, nat_tests) }

module _ (x : Settlement) (l : Lengths) where
  pub ready_from : settle_checks x l ≡ Ok tt → Ready x l
  unfolding settle_checks
  ready_from e =
      let n = x.intervals in
      let os = x.orders in
      let fs = x.order_fills in
      let bs = x.blocks in
      let gs = x.block_fills in
      let table = (in_day n (pos x.interval), NoInterval) ∷ (room_ok (length os) (length bs) n l, Short) ∷ [] in
      let a = then_ok (tests table) (paper_checks n os fs bs gs) tt e in
      let b = tests_out table a.0 in
      let room = roomy_from (length os) (length bs) n l b.1.0 in
      let p = then_ok (paper_lengths n os fs bs gs) _ tt a.1 in
      let q = then_ok (bounds n os bs) (quantities os fs bs gs) tt p.1 in
      let z = sized_from n os fs bs gs p.0 in
      let orders-each = orders_mild n os fs bs gs z.1 q.0 q.1 in
      let blocks-each = blocks_mild n os fs bs gs z.1 q.0 q.1 z.0 in
      record {
        sized = record {
          orders = z.1.few;
          blocks = z.1.fewer;
          order_fills = sym z.1.orders;
          block_fills = sym z.1.blocks;
          work = room.numbers;
          order_room = room.orders;
          block_room = room.blocks;
          order_small = small_at no_order os fs z.1.orders (λ k lt. (each_at _ os fs k no_order orders-each lt).1);
          block_small = small_at no_block bs gs z.1.blocks (λ k lt. (each_at _ bs gs k no_block blocks-each lt).0.1);
        };
        laid = laid_from (length os) (length bs) n x.interval l.sheet b.0 (and_parts (sheet_ok (length os) (length bs) n l.sheet) _ b.1.0).0;
      }

-- ---- the remainder is small

rounded_small : (r : ℤ) → rounded_ok r ≡ true → unsigned_abs r ≤ 11000000
rounded_small r e = let b = between_two (neg_ℤ (pos 11000000)) r (pos 11000000) e in omega (arith, ints, abs_is r)

nearest_small : (fs : List ℕ) → ((k : ℕ) → get_or fs k 0 ≤ 1000000) → (k : ℕ) → nearest (get_or fs k 0) ≤ 10000
nearest_small fs h k = let s = h k in omega arith

-- no remainder is larger
pub steps_small : (x : Settlement) (w : WorkLengths) → SizedFor x w → rounded_ok x.by.rounded ≡ true → unsigned_abs (settle_steps x) ≤ 21880000
unfolding settle_steps
steps_small x w s e =
    let r = rounded_small x.by.rounded e in
    let small = (settles x.orders x.order_fills x.blocks x.block_fills x.interval x.by.rounded).small 10000 (nearest_small x.order_fills s.order_small) (nearest_small x.block_fills s.block_small) in
    omega (arith, s.orders, s.blocks, s.order_fills, s.block_fills)

-- so small, it fits 32 bits
pub steps_fit : (z : ℤ) → unsigned_abs z ≤ 21880000 → SFits w32 z
steps_fit z small = fits_signed_from_abs w32 z (omega arith)
