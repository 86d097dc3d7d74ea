use Rattle.std.proofs.Common.{◌≡◌, arith, w32, to_z, of_z}
use borrow.Author.Differences.{ints}
use Rattle.engine.proofs.Terming.{terms_bounded, quarters-lawful}
use Rattle.engine.proofs.day.Day.terms_of.Goals as goal

pub invariant_of-result : goal.invariant_of-result
invariant_of-result c =
    let day = c.args.self.now in
    let x = c.args.record in
    let t = terms_bounded x c.requires in
    let p : to_z w32 (of_z w32 x.price) ≡ x.price = omega (arith, ints) in
    let r : to_z w32 (of_z w32 x.rounded) ≡ x.rounded = omega (arith, ints) in
    let m : to_z w32 (of_z w32 day.minutes) ≡ day.minutes = omega (arith, ints) in
    rw (p, r, m) (record { lawful = (t.0, t.1, quarters-lawful day.minutes day.sound.0) })
