use Rattle.std.proofs.Common.{length, ap, ap₂, rules, arith}
use borrow.Author.Differences.{ints}
use Rattle.std.proofs.lemmas.List.{length_push}
use Rattle.std.proofs.lemmas.Slice.Zip.{Zip-more, either_empty_from_Zip}
use Rattle.verdict.specs.Sums.{sum_filled}
use Rattle.verdict.proofs.Spent.{sum_spent}
use Rattle.verdict.proofs.walk.sum_of.Goals as goal

pub loop-x-preserved : goal.loop-x-preserved
loop-x-preserved g c =
    let n = length_push c.loop-x.yielded (c.in-Some.x, c.in-Some.fill) in
    let m = Zip-more c.loop-x.x-iterator c.next.new.self _ (c.in-Some.x, c.in-Some.fill) c.in-Some.is c.next.ensures.steps in
    let e = ap length m.0 in
    let s = ap₂ (sum_filled (g.M.Amount.gives c.args.amounts.now)) m.0 m.1 in
    (search rules, search rules, omega (arith, n, e), search rules, omega (arith, ints, s), record { low = omega (arith, ints, n); high = omega (arith, ints, n) })

pub returns-clause-is : goal.returns-clause-is
returns-clause-is g c =
    let z = sum_spent (g.M.Amount.gives c.args.amounts.now) _ _ (either_empty_from_Zip c.loop-x.x-iterator c.next.new.self _ c.in-None.is c.next.ensures.steps) in
    omega (arith, ints, z)
