use Rattle.verdict.proofs.Judging.{blocks_mild}
use Rattle.verdict.proofs.phases.Entered.welfare.Goals as goal

pub sum_of-requires-2-clause-may : goal.sum_of-requires-2-clause-may
sum_of-requires-2-clause-may c = let e = c.args.self.now in blocks_mild _ _ _ _ _ e.paper.sized e.bounded c.requires e.prices.short
