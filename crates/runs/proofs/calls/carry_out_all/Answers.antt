use Rattle.std.proofs.Common.{◌<◌, length, refl, ◌∙◌, arith}
use Rattle.entries.specs.Settles.{work_lengths}
use Rattle.engine.specs.Steps.{state_of}
use Rattle.runs.specs.Runs.{start}
use Rattle.runs.proofs.Telling.{run_more, drop_on, slices_stay, slices_on}
use Rattle.runs.proofs.calls.carry_out_all.Goals as goal

pub loop-place-init : goal.loop-place-init
loop-place-init g c = (start, refl, refl, g.L.Ledger.unmoved c.args.ledger.now, slices_stay c.args.work.now)

pub loop-place-preserved : goal.loop-place-preserved
loop-place-preserved g c =
    let l = c.loop-place in
    let w = work_lengths l.work in
    let s₀ = state_of c.args.running.now.day c.args.sheet.now (g.L.Accounts.model c.args.ledger.now) in
    let s = state_of l.running.day l.sheet (g.L.Accounts.model l.ledger) in
    let t = state_of c.carry_out.new.self.day c.carry_out.new.sheet (g.L.Accounts.model c.carry_out.new.ledger) in
    let room : l.place < length l.outcomes = omega arith in (
      run_more l.running.book c.args.running.now.book c.args.memory.orders.now c.args.fills.orders.now c.args.memory.blocks.now c.args.fills.blocks.now
          w s₀ s t c.args.calls.now l.outcomes l.place c.carry_out.result l.invariant.1 room l.invariant.0 c.carry_out.ensures.step,
      c.carry_out.ensures.book ∙ l.invariant.1,
      drop_on l.outcomes c.args.outcomes.now l.place c.carry_out.result l.invariant.2,
      g.L.Ledger.onward c.args.ledger.now l.ledger c.carry_out.new.ledger l.invariant.3 c.carry_out.ensures.keeps,
      slices_on c.args.work.now l.work c.carry_out.new.work l.invariant.4 c.carry_out.ensures.slices,
    )
