use Rattle.std.proofs.Common.{ℤ, arith}
use borrow.Author.Differences.{ints, abs_is}
use Rattle.engine.specs.Days.{records}
use Rattle.engine.proofs.Opens.{few_records, open_more}
use Rattle.engine.proofs.day.Day.open_worth.Goals as goal

pub loop-record-preserved : goal.loop-record-preserved
loop-record-preserved c =
    let d = c.args.self.now in
    let all = c.intervals-record-items.ensures in
    let few = few_records d in
    let x : ℤ = c.open_part-sum.result in
    let small = c.open_part-sum.ensures.small in
    let is = rw all at c.open_part-sum.ensures.is in
    let more = open_more d.minutes (records d) c.loop-record.record-index (rw all at c.loop-record-test.true) in
    let within = rw all at c.loop-record-test.true in
    (omega (arith, ints, abs_is x), record { low = omega (arith, ints, abs_is x); high = omega (arith, ints, abs_is x) })
