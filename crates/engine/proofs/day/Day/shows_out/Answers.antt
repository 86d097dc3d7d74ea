use Rattle.std.proofs.Common.{◌≡◌, true, sym, ap, ◌∙◌, arith, w32, to_z, of_z, rules}
use Rattle.std.specs.Prelude.{Some}
use borrow.Author.Differences.{ints}
use lib.Dec.{eqb}
use Rattle.market.specs.Bounds.{same}
use Rattle.engine.specs.Days.{shown}
use Rattle.engine.specs.Marks.{is_out}
use Rattle.engine.proofs.Shown.{shows_same}
use Rattle.engine.proofs.day.Day.shows_out.Goals as goal

pub returns-then-eq : goal.returns-then-eq
returns-then-eq c =
    let d = c.args.self.now in
    let t = c.args.remainder.now in
    let x = c.in-Some.record in
    let i : to_z w32 (of_z w32 t.interval) ≡ t.interval = omega (arith, ints) in
    let some : Some x ≡ shown d t.interval = c.in-Some.ensures ∙ ap (shown d) i in
    let out : is_out x.mark ≡ true = search rules in
    let equal : eqb (of_z w32 x.remainder) (of_z w32 t.steps) ≡ same x.remainder t.steps = search rules in
    equal ∙ sym (shows_same d t.interval t.steps x some out)
