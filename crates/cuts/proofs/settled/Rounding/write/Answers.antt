use Rattle.std.proofs.Common.{◌≡◌, ◌+◌, ◌++◌, length, drop, ap, ◌∙◌, ap₂}
use Rattle.market.specs.Kinds.{orders, blocks}
use Rattle.cuts.specs.Numbers.{rounded_numbers}
use Rattle.cuts.proofs.Walks.{length-rounded}
use Rattle.cuts.proofs.Parts.{both_written}
use Rattle.cuts.proofs.settled.Rounding.write.Goals as goal

pub returns : goal.returns
returns c =
    let s = c.args.self.now in
    let os = s.book.orders.now in
    let bs = s.book.blocks.now in
    let ys = rounded_numbers orders s.interval os s.fills.orders.now in
    let zs = rounded_numbers blocks s.interval bs s.fills.blocks.now in
    let p : c.write_rounded.new.numbers ≡ ys = c.write_rounded.ensures ∙ ap₂ (rounded_numbers orders s.interval) c.orders.ensures.entries c.orders.ensures.fills in
    let q : c.write_rounded-2.new.numbers ≡ zs = c.write_rounded-2.ensures ∙ ap₂ (rounded_numbers blocks s.interval) c.blocks-2.ensures.entries c.blocks-2.ensures.fills in
    both_written (length os) (length bs) c.args.numbers.now c.write_rounded.new.numbers c.write_rounded-2.new.numbers
    (ap length p ∙ length-rounded orders s.interval os s.fills.orders.now s.fits.order_fills)
    (ap length q ∙ length-rounded blocks s.interval bs s.fills.blocks.now s.fits.block_fills)
    ∙ ap₂ (λ y z. y ++ (z ++ drop (length os + length bs) c.args.numbers.now)) p q
