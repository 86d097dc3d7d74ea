-- A step under another name of its call and of its outcome.
use Rattle.std.proofs.Common.{◌≡◌, sym, subst}
use Rattle.engine.specs.declared.call.Call.{Call}
use Rattle.engine.specs.declared.call.Outcome.{Outcome}
use Rattle.entries.specs.Settles.{WorkLengths}
use Rattle.engine.specs.Steps.{Paper, State, Takes}

pub retaken : (p : Paper) (w : WorkLengths) (s : State) (c d : Call) (o q : Outcome) (s' : State) → c ≡ d → o ≡ q → Takes p w s d q s' → Takes p w s c o s'
retaken p w s c d o q s' e f t = subst (λ (x : Call). Takes p w s x o s') (sym e) (subst (λ (x : Outcome). Takes p w s d x s') (sym f) t)
