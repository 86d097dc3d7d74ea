use Rattle.verdict.proofs.Firsts.{then_next}
use Rattle.verdict.proofs.Judging.{orders_in_day, blocks_entered}
use Rattle.verdict.proofs.phases.Entered.check_prices.Goals as goal

pub first_broken-requires-clause-may : goal.first_broken-requires-clause-may
first_broken-requires-clause-may c = let e = c.args.self.now in orders_in_day _ _ _ _ _ e.paper.sized e.bounded

pub first_broken-requires-2-clause-may : goal.first_broken-requires-2-clause-may
first_broken-requires-2-clause-may c = let e = c.args.self.now in blocks_entered _ _ _ _ _ e.paper.sized e.bounded

pub returns : goal.returns
returns c = rw (← c.next_entry.ensures) (then_next _ _ _ _ c.in_ok-first_broken.ensures c.first_broken-2.ensures)
