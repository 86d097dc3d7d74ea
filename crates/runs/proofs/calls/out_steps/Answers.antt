use Rattle.std.proofs.Common.{◌≡◌, true, Some, sym, ap, ◌∙◌, arith, w32, to_z, of_z, rules}
use borrow.Author.Differences.{ints}
use Rattle.engine.specs.Days.{shown}
use Rattle.engine.specs.Marks.{is_out}
use Rattle.runs.proofs.Noting.{out_is}
use Rattle.runs.proofs.calls.out_steps.Goals as goal

pub returns : goal.returns
returns c =
    let d = c.args.day.now in
    let x = c.in_ok-record.record in
    let i : to_z w32 (of_z w32 c.args.interval) ≡ c.args.interval = omega (arith, ints) in
    let z : to_z w32 (of_z w32 x.remainder) ≡ x.remainder = omega (arith, ints) in
    let found : c.interval.result ≡ Some x = grind arith in
    let some : Some x ≡ shown d c.args.interval = sym found ∙ c.interval.ensures ∙ ap (shown d) i in
    let out : is_out x.mark ≡ true = search rules in
    ap Some z ∙ out_is d c.args.interval x some out
