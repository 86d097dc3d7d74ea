use Rattle.std.proofs.Common.{◌+◌, length, drop, ◌∙◌, w64, SFits, rules}
use Rattle.std.proofs.lemmas.Int.{to_z-of_z}
use Rattle.market.specs.Kinds.{orders, blocks}
use Rattle.cuts.specs.Numbers.{rounded_numbers}
use Rattle.cuts.specs.Settled.{gap_of}
use Rattle.cuts.proofs.Cutting.{balance_is}
use Rattle.cuts.proofs.Walks.{length-rounded}
use Rattle.cuts.proofs.settled.Rounding.round.Goals as goal

pub returns : goal.returns
unfolding gap_of
returns c =
    let s = c.args.self.now in
    let os = s.book.orders.now in
    let fs = s.fills.orders.now in
    let bs = s.book.blocks.now in
    let gs = s.fills.blocks.now in
    let rest = drop (length os + length bs) c.args.numbers.now in
    let b = balance_is os bs c.write.new.numbers (rounded_numbers orders s.interval os fs) (rounded_numbers blocks s.interval bs gs) rest s.rounded
    (length-rounded orders s.interval os fs s.fits.order_fills) (length-rounded blocks s.interval bs gs s.fits.block_fills) c.write.ensures in
    let fits : SFits w64 c.balance.result = search rules in
    record { gap = to_z-of_z w64 c.balance.result fits ∙ c.balance.ensures ∙ b; numbers = c.write.ensures }
