use Rattle.std.proofs.Common.{ap, arith}
use borrow.Author.Differences.{ints}
use Rattle.std.proofs.lemmas.List.{drop_more}
use Rattle.market.specs.Blank.{fresh}
use Rattle.verdict.specs.Rules.{price_sum}
use Rattle.verdict.proofs.rules.total_price.Goals as goal

pub loop-interval-preserved : goal.loop-interval-preserved
loop-interval-preserved c =
    let w = ap price_sum (drop_more c.args.intervals.now c.loop-interval.interval-index fresh (omega arith)) in
    (omega (arith, ints), record { low = omega (arith, ints); high = omega (arith, ints) })
