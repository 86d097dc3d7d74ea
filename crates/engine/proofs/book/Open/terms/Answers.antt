use Rattle.std.proofs.Common.{◌≡◌, arith, w32, ap, ◌∙◌, to_z, of_z}
use borrow.Author.Differences.{ints}
use Rattle.std.proofs.lemmas.Result.{err_from_is_err_and}
use Rattle.engine.specs.Days.{record_of}
use Rattle.engine.proofs.Terming.{passed_terms}
use Rattle.engine.proofs.book.Open.terms.Goals as goal

pub returns-in_err-check_terms-clause-answers : goal.returns-in_err-check_terms-clause-answers
returns-in_err-check_terms-clause-answers c =
    let p = err_from_is_err_and c.from_residual.result c.from_residual.ensures.1 in
    let i : to_z w32 (of_z w32 c.args.interval) ≡ c.args.interval = omega (arith, ints) in
    let x : to_z w32 (of_z w32 c.args.price) ≡ c.args.price = omega (arith, ints) in
    let n : to_z w32 (of_z w32 c.args.net) ≡ c.args.net = omega (arith, ints) in
    let r : to_z w32 (of_z w32 c.args.rounded) ≡ c.args.rounded = omega (arith, ints) in
    rw (p.1, p.2) (simp (i, x, n, r, c.count.ensures) at c.in_err-check_terms.ensures)

pub record-record-requires : goal.record-record-requires
record-record-requires c = (passed_terms _ _ (to_z w32 (of_z w32 c.args.interval)) (to_z w32 (of_z w32 c.args.price)) (to_z w32 (of_z w32 c.args.net)) (to_z w32 (of_z w32 c.args.rounded)) c.count.ensures c.in_ok-check_terms.ensures).0

pub put-requires : goal.put-requires
put-requires c =
    passed_terms _ _ (to_z w32 (of_z w32 c.args.interval)) (to_z w32 (of_z w32 c.args.price)) (to_z w32 (of_z w32 c.args.net)) (to_z w32 (of_z w32 c.args.rounded)) c.count.ensures c.in_ok-check_terms.ensures

pub returns-clause-answers : goal.returns-clause-answers
returns-clause-answers c =
    let i : to_z w32 (of_z w32 c.args.interval) ≡ c.args.interval = omega (arith, ints) in
    let x : to_z w32 (of_z w32 c.args.price) ≡ c.args.price = omega (arith, ints) in
    let n : to_z w32 (of_z w32 c.args.net) ≡ c.args.net = omega (arith, ints) in
    let r : to_z w32 (of_z w32 c.args.rounded) ≡ c.args.rounded = omega (arith, ints) in
    simp (i, x, n, r, c.count.ensures) at c.in_ok-check_terms.ensures

pub returns-clause-leaves : goal.returns-clause-leaves
returns-clause-leaves c =
    let y = c.record-record.result in
    let i : to_z w32 (of_z w32 c.args.interval) ≡ c.args.interval = omega (arith, ints) in
    let x : to_z w32 (of_z w32 c.args.price) ≡ c.args.price = omega (arith, ints) in
    let n : to_z w32 (of_z w32 c.args.net) ≡ c.args.net = omega (arith, ints) in
    let r : to_z w32 (of_z w32 c.args.rounded) ≡ c.args.rounded = omega (arith, ints) in
    let z : to_z w32 (of_z w32 y.remainder) ≡ y.remainder = omega (arith, ints) in
    let is : y ≡ record_of c.args.day.now c.args.interval = c.record-record.ensures.is ∙ ap (record_of c.args.day.now) i in
    rw (i, x, n, r, z, is) at c.put.ensures
