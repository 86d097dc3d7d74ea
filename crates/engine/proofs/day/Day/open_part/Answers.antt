use Rattle.std.proofs.Common.{◌≡◌, ℤ, ap, ◌∙◌, arith, w32, w64, SFits, to_z, of_z, rules}
use borrow.Author.Differences.{ints}
use Rattle.std.proofs.lemmas.Int.{to_z-of_z}
use Rattle.entries.specs.Amounts.{Conditions, worth, conditions}
use Rattle.engine.proofs.Opens.{open_is}
use Rattle.engine.proofs.day.Day.open_part.Goals as goal

pub returns-in-Out-clause-is : goal.returns-in-Out-clause-is
returns-in-Out-clause-is c =
    let x = c.args.record in
    let y : ℤ = c.worth.result in
    let small = c.worth.ensures.small in
    let w : SFits w64 y = search rules in
    let z : to_z w32 (of_z w32 x.remainder) ≡ x.remainder = omega (arith, ints) in
    open_is c.args.self.now.minutes x (to_z w64 (of_z w64 y)) c.in-Out.is
    (to_z-of_z w64 y w ∙ c.worth.ensures.is ∙ ap (worth (conditions c.terms_of.result)) z ∙ ap (λ (k : Conditions). worth k x.remainder) c.terms_of.ensures)
