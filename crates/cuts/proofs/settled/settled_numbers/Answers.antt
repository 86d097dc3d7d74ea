use Rattle.cuts.proofs.Remainders.{settles}
use Rattle.cuts.proofs.settled.settled_numbers.Goals as goal

pub returns-in_err-rounding-clause-laws : goal.returns-in_err-rounding-clause-laws
returns-in_err-rounding-clause-laws c = settles _ _ _ _ _ _

pub returns-then-not-lists_fit-clause-laws : goal.returns-then-not-lists_fit-clause-laws
returns-then-not-lists_fit-clause-laws c = settles _ _ _ _ _ _

pub returns-clause-laws : goal.returns-clause-laws
returns-clause-laws c = settles _ _ _ _ _ _
