use Rattle.std.proofs.Common.{◌≡◌, true, refl, rules}
use Rattle.std.proofs.lemmas.List.Elements.{All-replicate}
use Rattle.market.specs.declared.records.Interval.{Interval}
use Rattle.market.specs.Blank.{fresh}
use Rattle.engine.specs.Sound.{terms_lawful}
use Rattle.engine.proofs.day.Day.fresh.Goals as goal

pub invariant_of-result : goal.invariant_of-result
invariant_of-result c = record { sound = (search rules, c.requires.1.0, c.requires.1.1, refl, All-replicate (λ (x : Interval). terms_lawful x ≡ true) 100 fresh refl) }
