use Rattle.std.proofs.Common.{◌≡◌, ℤ, nat_abs, Ok, sym, ap, ◌∙◌, arith, w32, to_z, of_z}
use borrow.Author.Differences.{ints}
use Rattle.std.proofs.lemmas.Result.{err_from_is_err_and}
use Rattle.market.specs.declared.records.Interval.{Interval}
use Rattle.entries.specs.Amounts.{Conditions, conditions}
use Rattle.engine.specs.Days.{record_of, conditions_in, conditions_of}
use Rattle.engine.specs.Voiding.{voidable}
use Rattle.engine.proofs.Settlings.{unvoided, voided, same_taken}
use Rattle.engine.proofs.Shown.{number_fits}
use Rattle.engine.proofs.book.Passed.void.Goals as goal

pub overflow_cast-interval : goal.overflow_cast-interval
overflow_cast-interval g c = number_fits c.args.day.now (to_z w32 (of_z w32 c.args.interval)) c.in_ok-book.ensures.within

pub returns-in_err-void_interval-clause-step : goal.returns-in_err-void_interval-clause-step
returns-in_err-void_interval-clause-step g c =
    let p = c.args.self.now in
    let d = c.args.day.now in
    let os = c.args.memory.orders.now in
    let bs = c.args.memory.blocks.now in
    let i : ℤ = c.args.interval in
    let s = c.args.sheet.now in
    let book = c.in_ok-book.book in
    let x : Interval = c.record-record.result in
    let t : Conditions = conditions c.terms_of.result in
    let at : to_z w32 (of_z w32 i) ≡ i = omega (arith, ints) in
    let z : to_z w32 (of_z w32 x.remainder) ≡ x.remainder = omega (arith, ints) in
    let is : x ≡ record_of d i = c.record-record.ensures.is ∙ ap (record_of d) at in
    let ok : voidable p d os bs i ≡ Ok tt = ap (voidable p d os bs) (sym at) ∙ c.in_ok-book.ensures.passes in
    let et : t ≡ conditions_of d i = c.terms_of.ensures ∙ ap (conditions_in d.minutes) is in
    let call = c.void_interval.ensures in
    let r = err_from_is_err_and c.from_residual-in_err-void_interval.result c.from_residual-in_err-void_interval.ensures.1 in
    let e = same_taken p d os bs i book.orders.now book.blocks.now c.count.result (nat_abs (to_z w32 (of_z w32 i))) t (to_z w32 (of_z w32 x.remainder))
    c.in_ok-book.ensures.orders c.in_ok-book.ensures.blocks c.count.ensures (ap nat_abs at) et (z ∙ ap (λ (y : Interval). y.remainder) is) in
    λ fs gs w.
    rw (r.1, r.2) (
    unvoided p d os fs bs gs i w s _ e
    (g.L.Accounts.model c.args.ledger.now) (g.L.Accounts.model c.void_interval.new.ledger) c.void_interval.new.sheet
    c.in_err-void_interval.field-0.0 ok c.in_err-void_interval.ensures.answers call.writes call.posts
    )

pub returns-clause-step : goal.returns-clause-step
returns-clause-step g c =
    let p = c.args.self.now in
    let d = c.args.day.now in
    let os = c.args.memory.orders.now in
    let bs = c.args.memory.blocks.now in
    let i : ℤ = c.args.interval in
    let s = c.args.sheet.now in
    let book = c.in_ok-book.book in
    let x : Interval = c.record-record.result in
    let t : Conditions = conditions c.terms_of.result in
    let at : to_z w32 (of_z w32 i) ≡ i = omega (arith, ints) in
    let z : to_z w32 (of_z w32 x.remainder) ≡ x.remainder = omega (arith, ints) in
    let is : x ≡ record_of d i = c.record-record.ensures.is ∙ ap (record_of d) at in
    let ok : voidable p d os bs i ≡ Ok tt = ap (voidable p d os bs) (sym at) ∙ c.in_ok-book.ensures.passes in
    let et : t ≡ conditions_of d i = c.terms_of.ensures ∙ ap (conditions_in d.minutes) is in
    let call = c.void_interval.ensures in
    let e = same_taken p d os bs i book.orders.now book.blocks.now c.count.result (nat_abs (to_z w32 (of_z w32 i))) t (to_z w32 (of_z w32 x.remainder))
    c.in_ok-book.ensures.orders c.in_ok-book.ensures.blocks c.count.ensures (ap nat_abs at) et (z ∙ ap (λ (y : Interval). y.remainder) is) in
    λ fs gs w.
    voided p d os fs bs gs i w s _ e
    (g.L.Accounts.model c.args.ledger.now) (g.L.Accounts.model c.void_interval.new.ledger) c.void_interval.new.sheet
    c.put_state.new.self ok c.in_ok-void_interval.ensures.answers call.writes call.posts
    (rw at at c.put_state.ensures)
