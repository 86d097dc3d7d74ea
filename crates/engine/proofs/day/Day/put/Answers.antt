use Rattle.std.proofs.Common.{◌≡◌, true, rules}
use Rattle.std.proofs.lemmas.List.Elements.{All-set}
use Rattle.market.specs.declared.records.Interval.{Interval}
use Rattle.engine.specs.Sound.{terms_lawful}
use Rattle.engine.proofs.day.Day.put.Goals as goal

pub invariant_of-self : goal.invariant_of-self
invariant_of-self c =
    let day = c.args.self.now in
    record { sound = (day.sound.0, day.sound.1, day.sound.2, search rules, All-set (λ (x : Interval). terms_lawful x ≡ true) day.intervals c.place-place.result c.args.record c.requires.1 day.sound.4) }
