use Rattle.std.proofs.Common.{◌≡◌, neg_ℤ, ap, ◌∙◌, arith, w32, w64, SFits, to_z, of_z, rules}
use borrow.Author.Differences.{ints}
use Rattle.std.proofs.lemmas.Int.{to_z-of_z}
use Rattle.entries.specs.Amounts.{Conditions, worth, conditions}
use Rattle.engine.specs.Days.{conditions_in, conditions_of}
use Rattle.engine.proofs.day.Day.booked.Goals as goal

pub returns : goal.returns
returns c =
    let d = c.args.self.now in
    let t = c.args.remainder.now in
    let i : to_z w32 (of_z w32 t.interval) ≡ t.interval = omega (arith, ints) in
    let z : to_z w32 (of_z w32 t.steps) ≡ t.steps = omega (arith, ints) in
    let terms = c.terms_of-terms.ensures ∙ ap (conditions_in d.minutes) c.record.ensures.is ∙ ap (conditions_of d) i in
    let w : SFits w64 c.owed.result = search rules in
    to_z-of_z w64 c.owed.result w ∙ c.owed.ensures ∙ ap neg_ℤ (ap (worth (conditions c.terms_of-terms.result)) z ∙ ap (λ (k : Conditions). worth k t.steps) terms)
