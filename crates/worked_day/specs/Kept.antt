-- What whoever plays calls on a paper gets of the law over runs.
use Rattle.std.specs.Prelude.{List}
use Rattle.engine.specs.Steps.{Paper, State}
use Rattle.runs.specs.Runs.{Event, Law}

-- of some history of calls that made s of s₀, the law: balance, accounts and welfare
abbrev pub KeepsLaw : Paper → State → State → Type 0
KeepsLaw p s₀ s = (h : List Event) × Law p s₀ h s
