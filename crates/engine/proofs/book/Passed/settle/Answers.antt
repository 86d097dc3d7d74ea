use Rattle.std.proofs.Common.{◌≡◌, ℤ, nat_abs, Ok, sym, ap, ◌∙◌, arith, w32, SFits, to_z, of_z, rules}
use borrow.Author.Differences.{ints}
use Rattle.std.proofs.lemmas.Int.{to_z-of_z}
use Rattle.std.proofs.lemmas.Result.{err_from_is_err_and}
use Rattle.entries.specs.Amounts.{Conditions, conditions}
use Rattle.entries.specs.Settles.{work_lengths}
use Rattle.engine.specs.Days.{conditions_in, conditions_of}
use Rattle.engine.specs.Settling.{ready}
use Rattle.engine.proofs.Settlings.{refused, settled, same_asked}
use Rattle.engine.proofs.Shown.{number_fits}
use Rattle.engine.proofs.book.Passed.settle.Goals as goal

pub overflow_cast-interval : goal.overflow_cast-interval
overflow_cast-interval g c = number_fits c.args.day.now (to_z w32 (of_z w32 c.args.interval)) c.in_ok-book.ensures.within

pub returns-in_err-steps-clause-step : goal.returns-in_err-steps-clause-step
returns-in_err-steps-clause-step g c =
    let p = c.args.self.now in
    let d = c.args.day.now in
    let os = c.args.memory.orders.now in
    let bs = c.args.memory.blocks.now in
    let i : ℤ = c.args.interval in
    let s = c.args.sheet.now in
    let book = c.in_ok-book.book in
    let t : Conditions = conditions c.terms_of-terms.result in
    let at : to_z w32 (of_z w32 i) ≡ i = omega (arith, ints) in
    let ok : ready p d os bs i ≡ Ok tt = ap (ready p d os bs) (sym at) ∙ c.in_ok-book.ensures.passes in
    let et : t ≡ conditions_of d i = c.terms_of-terms.ensures ∙ ap (conditions_in d.minutes) c.record.ensures.is ∙ ap (conditions_of d) at in
    let call = c.settle_interval.ensures in
    let r = err_from_is_err_and c.from_residual-in_err-steps.result c.from_residual-in_err-steps.ensures.1 in
    let e = same_asked p d os c.args.fills.orders.now bs c.args.fills.blocks.now i book.orders.now book.blocks.now c.count.result (nat_abs (to_z w32 (of_z w32 i))) t
    c.in_ok-book.ensures.orders c.in_ok-book.ensures.blocks c.count.ensures (ap nat_abs at) et in
    rw (r.1, r.2) (
    refused p d os c.args.fills.orders.now bs c.args.fills.blocks.now i (work_lengths c.args.work.now) s _ e
    (g.L.Accounts.model c.args.ledger.now) (g.L.Accounts.model c.settle_interval.new.ledger) c.settle_interval.new.sheet
    c.in_err-steps.field-0.0 ok c.in_err-steps.ensures.answers call.writes call.posts
    )

pub returns-clause-step : goal.returns-clause-step
returns-clause-step g c =
    let p = c.args.self.now in
    let d = c.args.day.now in
    let os = c.args.memory.orders.now in
    let bs = c.args.memory.blocks.now in
    let i : ℤ = c.args.interval in
    let s = c.args.sheet.now in
    let book = c.in_ok-book.book in
    let t : Conditions = conditions c.terms_of-terms.result in
    let at : to_z w32 (of_z w32 i) ≡ i = omega (arith, ints) in
    let ok : ready p d os bs i ≡ Ok tt = ap (ready p d os bs) (sym at) ∙ c.in_ok-book.ensures.passes in
    let et : t ≡ conditions_of d i = c.terms_of-terms.ensures ∙ ap (conditions_in d.minutes) c.record.ensures.is ∙ ap (conditions_of d) at in
    let call = c.settle_interval.ensures in
    let y : ℤ = c.in_ok-steps.steps in
    let w : SFits w32 y = search rules in
    let fits : to_z w32 (of_z w32 y) ≡ y = to_z-of_z w32 y w in
    let e = same_asked p d os c.args.fills.orders.now bs c.args.fills.blocks.now i book.orders.now book.blocks.now c.count.result (nat_abs (to_z w32 (of_z w32 i))) t
    c.in_ok-book.ensures.orders c.in_ok-book.ensures.blocks c.count.ensures (ap nat_abs at) et in
    rw fits (
    settled p d os c.args.fills.orders.now bs c.args.fills.blocks.now i (work_lengths c.args.work.now) s _ e
    (g.L.Accounts.model c.args.ledger.now) (g.L.Accounts.model c.settle_interval.new.ledger) c.settle_interval.new.sheet
    y c.put_state.new.self ok c.in_ok-steps.ensures.answers call.writes call.posts
    (rw (at, fits) at c.put_state.ensures)
    )
