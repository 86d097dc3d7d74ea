use Rattle.std.proofs.Common.{◌≡◌, map}
use Rattle.cuts.specs.Stages.{last_step, turns, stage_cut}
use Rattle.cuts.proofs.stage.run_turns.Given as goal

abbrev pub invariant-loop-left : goal.invariant-loop-left
invariant-loop-left g l =
    turns last_step (map g.C.Candidate.place l.list) l.turn l.numbers l.left
    ≡ stage_cut last_step (map g.C.Candidate.place l.list) l.initial.numbers l.initial.left

abbrev pub decreases-loop-left : goal.decreases-loop-left
decreases-loop-left g l = l.left
