use Rattle.std.proofs.Common.{◌≡◌, ◌+◌, ◌-◌, length, take, drop, ap, ◌∙◌, arith}
use borrow.Author.Differences.{ints}
use Rattle.market.specs.Kinds.{blocks}
use Rattle.cuts.specs.Numbers.{net}
use Rattle.cuts.proofs.settled.Rounding.balance.Goals as goal

pub returns : goal.returns
returns c =
    let a = length c.args.self.now.book.orders.now in
    let bs = c.args.self.now.book.blocks.now in
    let b = length bs in
    let n : a + b - a ≡ b = omega arith in
    let x = c.net.ensures.is in
    let y : c.net-2.result ≡ net blocks bs (take b (drop a c.args.numbers.now)) = c.net-2.ensures.is ∙ ap (λ k. net blocks bs (take k (drop a c.args.numbers.now))) n in
    omega (arith, ints)
