use Rattle.std.proofs.Common.{rules, arith}
use Rattle.std.proofs.lemmas.List.{drop_more}
use Rattle.verdict.proofs.walk.first_refused.Goals as goal

pub loop-i-preserved : goal.loop-i-preserved
loop-i-preserved g c =
    let left = drop_more c.args.records.now c.loop-i.i c.index-records-i.result (omega arith) in
    search rules
