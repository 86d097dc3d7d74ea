use Rattle.std.proofs.Common.{◌≡◌, true, false, not, Some, refl, sym, ap, ◌∙◌, arith, rules, w32, to_z, of_z}
use borrow.Author.Differences.{ints}
use Rattle.std.proofs.lemmas.Bool.{not-true, not-false}
use Rattle.engine.specs.Days.{shown, record_of}
use Rattle.engine.specs.Marks.{same_mark}
use Rattle.engine.proofs.Marking.{shows_mark}
use Rattle.engine.proofs.Shown.{shown_some}
use Rattle.engine.proofs.book.Passed.usable.Goals as goal

pub returns-then-ne-clause-refuses : goal.returns-then-ne-clause-refuses
returns-then-ne-clause-refuses c =
    let d = c.args.day.now in
    let x = c.in_ok-record.record in
    let i : to_z w32 (of_z w32 c.args.interval) ≡ c.args.interval = omega (arith, ints) in
    let found : c.interval.result ≡ Some x = grind arith in
    let some : Some x ≡ shown d c.args.interval = sym found ∙ c.interval.ensures ∙ ap (shown d) i in
    let s = shown_some d c.args.interval x some in
    let same = shows_mark d c.args.interval x c.args.mark some in
    let no : same_mark c.args.mark (record_of d c.args.interval).mark ≡ false = not-true _ (sym (ap not same) ∙ sym c.ne.ensures ∙ c.if-ne.true) in
    rw (s.0, no) refl

pub returns-clause-passes : goal.returns-clause-passes
returns-clause-passes c =
    let d = c.args.day.now in
    let x = c.in_ok-record.record in
    let i : to_z w32 (of_z w32 c.args.interval) ≡ c.args.interval = omega (arith, ints) in
    let found : c.interval.result ≡ Some x = grind arith in
    let some : Some x ≡ shown d c.args.interval = sym found ∙ c.interval.ensures ∙ ap (shown d) i in
    let s = shown_some d c.args.interval x some in
    let same = shows_mark d c.args.interval x c.args.mark some in
    let yes : same_mark c.args.mark (record_of d c.args.interval).mark ≡ true = not-false _ (sym (ap not same) ∙ sym c.ne.ensures ∙ c.if-ne.false) in
    rw (s.0, yes) (search rules)
