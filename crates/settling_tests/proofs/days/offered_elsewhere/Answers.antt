-- What was handed over, and came back from another day, is noted without refusal.
use Rattle.std.proofs.Common.{◌≡◌, true, ℤ, pos, ap, ◌∙◌}
use Rattle.engine.specs.declared.remainder.Remainder.{Remainder}
use Rattle.engine.specs.Marks.{shows_out}
use Rattle.engine.specs.Steps.{paper_of, state_of}
use Rattle.engine.proofs.Handing.{settled_shows, never_refused}
use Rattle.settling_tests.proofs.days.offered_elsewhere.Goals as goal

pub unreachable-requires : goal.unreachable-requires
unreachable-requires g c =
    let b = c.of_orders-book.result in
    let f = c.of_orders-fills.result in
    let p = paper_of c.args.passed.now b.orders.now f.orders.now b.blocks.now f.blocks.now in
    let d = c.settle.new.day in
    let s = c.settle.new.sheet in
    let m = g.L.Accounts.model c.settle.new.ledger in
    let t = c.in_ok-remainder.remainder in
    let back : Remainder = c.in-Err-note.returned.remainder in
    let shows : shows_out d back.interval back.steps ≡ true =
    ap (λ (r : Remainder). shows_out d r.interval r.steps) (c.in-Err-note.ensures.back ∙ c.in-Err.ensures.back)
    ∙ ap (λ (j : ℤ). shows_out d j t.steps) c.in_ok-remainder.ensures.hands
    ∙ settled_shows p _ (state_of c.args.day.now c.args.sheet.now (g.L.Accounts.model c.args.ledger.now)) (state_of d s m) (pos 1) t.steps c.in_ok-remainder.ensures.step in
    never_refused p (record { numbers = 0; orders = 0; blocks = 0 }) (state_of d s m) (state_of c.note-2.new.self s m) back.interval back.steps c.in-Err-note-2.field-0.refusal shows
    (c.in-Err-note-2.ensures.step p (record { numbers = 0; orders = 0; blocks = 0 }) s m)
