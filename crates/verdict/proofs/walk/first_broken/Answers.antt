use Rattle.std.proofs.Common.{refl, sym, ◌∙◌}
use Rattle.std.proofs.lemmas.Slice.Zip.{either_empty_from_Zip}
use Rattle.std.specs.Iterator.Adapters.{enumerate_source}
use Rattle.verdict.proofs.Spent.{filled_spent}
use Rattle.verdict.proofs.walk.first_broken.Goals as goal

pub returns : goal.returns
returns g c =
    sym (filled_spent _ _ _ _ (either_empty_from_Zip (enumerate_source c.loop-i.i-iterator) (enumerate_source c.next.new.self) _ refl c.in-None.ensures.steps.0)) ∙ c.loop-i.invariant.4
