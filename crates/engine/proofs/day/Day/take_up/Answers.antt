use Rattle.std.proofs.Common.{◌≡◌, true, sym, ap, ◌∙◌, refl, arith, w32, to_z, of_z, rules}
use Rattle.std.specs.Prelude.{Some}
use borrow.Author.Differences.{ints}
use Rattle.market.specs.declared.records.Interval.{Interval}
use Rattle.engine.specs.Days.{shown}
use Rattle.engine.specs.Marks.{is_noted}
use Rattle.engine.proofs.Shown.{shown_some, taken}
use Rattle.engine.proofs.day.Day.take_up.Goals as goal

pub returns-clause-step : goal.returns-clause-step
returns-clause-step c =
    let d = c.args.self.now in
    let x = c.in_ok-record.record in
    let i : to_z w32 (of_z w32 c.args.interval) ≡ c.args.interval = omega (arith, ints) in
    let z : to_z w32 (of_z w32 x.remainder) ≡ x.remainder = omega (arith, ints) in
    let found : c.interval.result ≡ Some x = grind arith in
    let some : Some x ≡ shown d c.args.interval = sym found ∙ c.interval.ensures ∙ ap (shown d) i in
    let noted : is_noted x.mark ≡ true = search rules in
    let amount = z ∙ ap (λ (y : Interval). y.remainder) (shown_some d c.args.interval x some).1 in
    λ p w s m. (
      rw (taken d c.args.interval x some noted, amount) refl,
      record { day = rw i at c.put_mark.ensures; sheet = refl; ledger = refl },
    )
