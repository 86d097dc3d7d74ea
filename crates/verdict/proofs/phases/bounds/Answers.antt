use Rattle.verdict.proofs.Firsts.{then_next}
use Rattle.verdict.proofs.phases.bounds.Goals as goal

pub returns : goal.returns
returns c = rw (← c.next_entry.ensures) (then_next _ _ _ _ c.in_ok-first_refused.ensures c.first_refused-2.ensures)
