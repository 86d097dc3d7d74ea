-- What was handed over is noted without refusal.
use Rattle.std.proofs.Common.{◌≡◌, true, ℤ, ap, ◌∙◌, w32, to_z, of_z}
use Rattle.entries.specs.Settles.{work_lengths}
use Rattle.engine.specs.Marks.{shows_out}
use Rattle.engine.specs.Steps.{paper_of, state_of}
use Rattle.engine.proofs.Handing.{settled_shows, never_refused}
use Rattle.settling_tests.proofs.days.settle_and_note.Goals as goal

pub unreachable-requires : goal.unreachable-requires
unreachable-requires g c =
    let p = paper_of c.args.passed.now c.args.book.orders.now c.args.fills.orders.now c.args.book.blocks.now c.args.fills.blocks.now in
    let w = work_lengths c.args.work.now in
    let d = c.settle.new.day in
    let s = c.settle.new.sheet in
    let m = g.L.Accounts.model c.settle.new.ledger in
    let t = c.in_ok-remainder.remainder in
    let i : ℤ = to_z w32 (of_z w32 c.args.interval) in
    let shows : shows_out d t.interval t.steps ≡ true =
    ap (λ (j : ℤ). shows_out d j t.steps) c.in_ok-remainder.ensures.hands
    ∙ settled_shows p w (state_of c.args.day.now c.args.sheet.now (g.L.Accounts.model c.args.ledger.now)) (state_of d s m) i t.steps c.in_ok-remainder.ensures.step in
    never_refused p w (state_of d s m) (state_of c.note.new.self s m) t.interval t.steps c.in-Err.field-0.refusal shows (c.in-Err.ensures.step p w s m)
