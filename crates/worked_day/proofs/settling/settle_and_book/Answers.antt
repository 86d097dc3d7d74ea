-- A remainder that could not be booked is noted without refusal: the day still shows it out.
use Rattle.std.proofs.Common.{◌≡◌, true, ℤ, [], pos, ap, ◌∙◌}
use Rattle.entries.specs.Settles.{work_lengths}
use Rattle.engine.specs.declared.day.Day.{Day}
use Rattle.engine.specs.declared.remainder.Remainder.{Remainder}
use Rattle.engine.specs.Marks.{shows_out}
use Rattle.engine.specs.Steps.{paper_of, state_of}
use Rattle.engine.proofs.Handing.{settled_shows, never_refused}
use Rattle.worked_day.proofs.settling.settle_and_book.Goals as goal

pub unreachable-requires : goal.unreachable-requires
unreachable-requires g c =
    let p = paper_of c.args.passed.now c.args.book.orders.now c.args.fills.orders.now c.args.book.blocks.now c.args.fills.blocks.now in
    let w = work_lengths c.args.work.now in
    let m = g.L.Accounts.model c.args.ledger.now in
    let d = c.settle.new.day in
    let t = c.in_ok-remainder.remainder in
    let back : Remainder = c.in-Err.field-0.remainder in
    let shown = settled_shows p w _ _ (pos 1) t.steps c.in_ok-remainder.ensures.step in
    let same : back ≡ t = c.in-Err.ensures.back in
    let shows : shows_out c.book.new.self back.interval back.steps ≡ true =
    ap (λ (x : Day). shows_out x back.interval back.steps) (c.in-Err.ensures.step p w []).1.day
    ∙ ap (λ (r : Remainder). shows_out d r.interval r.steps) same
    ∙ ap (λ (i : ℤ). shows_out d i t.steps) c.in_ok-remainder.ensures.hands
    ∙ shown in
    never_refused p w (state_of c.book.new.self [] m) (state_of c.note.new.self [] m) back.interval back.steps c.in-Err-note.field-0.refusal shows (c.in-Err-note.ensures.step p w [] m)
