use Rattle.verdict.proofs.Firsts.{then_next}
use Rattle.verdict.proofs.paper.Paper.check_quantities.Goals as goal

pub returns : goal.returns
returns c = rw (← c.next_entry.ensures) (then_next _ _ _ _ c.in_ok-first_broken.ensures c.first_broken-2.ensures)
