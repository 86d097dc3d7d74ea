use Rattle.std.proofs.Common.{◌≡◌, ◌+◌, ◌++◌, length, drop, sym, ◌∙◌, ap₂, arith, w64, SFits, to_z, of_z, rules}
use Rattle.std.proofs.lemmas.List.{append_assoc}
use Rattle.std.proofs.lemmas.Int.{to_z-of_z}
use Rattle.market.specs.Kinds.{orders, blocks}
use Rattle.cuts.specs.Numbers.{rounded_numbers}
use Rattle.cuts.specs.Settled.{gap_of, orders_cut, blocks_cut, settled_orders, settled_blocks, settled_numbers, remainder_of}
use Rattle.cuts.proofs.Cutting.{balance_is, length-orders_cut, length-blocks_cut}
use Rattle.cuts.proofs.Parts.{first_part, second_part, past_parts}
use Rattle.cuts.proofs.Walks.{length-rounded}
use Rattle.cuts.proofs.settled.Rounding.settle.Goals as goal

pub cut-requires : goal.cut-requires
cut-requires c =
    let s = c.args.self.now in
    let os = s.book.orders.now in
    let fs = s.fills.orders.now in
    let bs = s.book.blocks.now in
    let gs = s.fills.blocks.now in
    let rest = drop (length os + length bs) c.args.numbers.now in
    let ns = rounded_numbers orders s.interval os fs in
    let ms = rounded_numbers blocks s.interval bs gs in
    let a = length-rounded orders s.interval os fs s.fits.order_fills in
    let b = length-rounded blocks s.interval bs gs s.fits.block_fills in
    let e = c.round-gap.ensures.numbers in
    record {
      room = omega (arith, c.round-gap.auto.numbers);
      lists = c.requires.lists;
      orders = first_part (length os) (length bs) c.round-gap.new.numbers ns ms rest a b e;
      blocks = second_part (length os) (length bs) c.round-gap.new.numbers ns ms rest a b e;
    }

pub returns : goal.returns
unfolding remainder_of settled_numbers settled_orders settled_blocks
returns c =
    let s = c.args.self.now in
    let os = s.book.orders.now in
    let fs = s.fills.orders.now in
    let bs = s.book.blocks.now in
    let gs = s.fills.blocks.now in
    let i = s.interval in
    let r = s.rounded in
    let rest = drop (length os + length bs) c.args.numbers.now in
    let gap = gap_of os fs bs gs i r in
    let ys = settled_orders os fs bs gs i r in
    let zs = settled_blocks os fs bs gs i r in
    let fits : SFits w64 c.round-gap.result = search rules in
    let same : to_z w64 (of_z w64 c.round-gap.result) ≡ gap = to_z-of_z w64 c.round-gap.result fits ∙ c.round-gap.ensures.gap in
    let past : drop (length os + length bs) c.round-gap.new.numbers ≡ rest =
    past_parts (length os) (length bs) c.round-gap.new.numbers (rounded_numbers orders i os fs) (rounded_numbers blocks i bs gs) rest
    (length-rounded orders i os fs s.fits.order_fills) (length-rounded blocks i bs gs s.fits.block_fills) c.round-gap.ensures.numbers in
    let e : c.cut.new.numbers ≡ ys ++ (zs ++ rest) =
    c.cut.ensures.numbers ∙ ap₂ (λ g x. (orders_cut os fs i g).numbers ++ ((blocks_cut bs gs i g (orders_cut os fs i g).left).numbers ++ x)) same past in
    let b = balance_is os bs c.cut.new.numbers ys zs rest r
    (length-orders_cut os fs i gap s.fits.order_fills) (length-blocks_cut bs gs i gap (orders_cut os fs i gap).left s.fits.block_fills) e in
    let fit : SFits w64 c.balance.result = search rules in
    record { remainder = to_z-of_z w64 c.balance.result fit ∙ c.balance.ensures ∙ b; same = c.cut.ensures.same; numbers = e ∙ sym (append_assoc ys zs rest) }
