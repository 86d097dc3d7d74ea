use Rattle.std.proofs.Common.{◌≡◌, ◌*◌, drop, ◌+ℤ◌}
use Rattle.market.specs.Signed.{Within}
use Rattle.verdict.specs.Rules.{price_sum}
use Rattle.verdict.proofs.rules.total_price.Given as goal

abbrev pub invariant-loop-interval : goal.invariant-loop-interval
invariant-loop-interval l =
    ((l.sum +ℤ price_sum (drop l.interval-index l.intervals)) ≡ price_sum l.intervals)
    × Within (2147483648 * l.interval-index) l.sum
