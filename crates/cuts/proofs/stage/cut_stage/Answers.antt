use Rattle.std.proofs.Common.{map}
use Rattle.cuts.proofs.OnlyCuts.{only_cuts}
use Rattle.cuts.proofs.OpenCuts.{open_cuts-law}
use Rattle.cuts.proofs.stage.cut_stage.Goals as goal

pub returns-clause-only : goal.returns-clause-only
returns-clause-only g c =
    let e = c.run_turns.ensures.numbers in
    let f = c.run_turns.ensures.left in
    rw (e, f) (only_cuts (map g.C.Candidate.place c.args.list.now) 0 c.args.numbers.now c.args.gap)

pub returns-clause-open_cuts : goal.returns-clause-open_cuts
returns-clause-open_cuts g c = let f = c.run_turns.ensures.left in rw f (open_cuts-law (map g.C.Candidate.place c.args.list.now) c.args.numbers.now c.args.gap)
