use Rattle.std.proofs.Common.{◌≡◌, ℤ, sym, ap, ◌∙◌, arith, w32, to_z, of_z}
use borrow.Author.Differences.{ints}
use Rattle.entries.specs.Settles.{work_lengths}
use Rattle.engine.specs.declared.call.Call.TheVariants.{Book, Note, TakeUp, Void}
use Rattle.engine.specs.Steps.{paper_of, state_of}
use Rattle.engine.proofs.Retaken.{retaken}
use Rattle.engine.proofs.running.Running.carry_out.Goals as goal

pub returns-in-Book-clause-step : goal.returns-in-Book-clause-step
returns-in-Book-clause-step g c =
    let p = paper_of c.args.self.now.book c.args.memory.orders.now c.args.fills.orders.now c.args.memory.blocks.now c.args.fills.blocks.now in
    let w = work_lengths c.args.work.now in
    let i : to_z w32 (of_z w32 c.in-Book.interval) ≡ c.in-Book.interval = omega (arith, ints) in
    let z : to_z w32 (of_z w32 c.in-Book.steps) ≡ c.in-Book.steps = omega (arith, ints) in
    let called = c.in-Book.is ∙ ap (λ (x : ℤ). Book x c.in-Book.steps) (sym i) ∙ ap (λ (x : ℤ). Book (to_z w32 (of_z w32 c.in-Book.interval)) x) (sym z) in
    let s = state_of c.args.self.now.day c.args.sheet.now (g.L.Accounts.model c.args.ledger.now) in
    let t = state_of c.book.new.self c.args.sheet.now (g.L.Accounts.model c.book.new.ledger) in
    retaken p w s _ _ _ _ t called c.spent.ensures (c.book.ensures.step p w c.args.sheet.now)

pub returns-in-Note-clause-step : goal.returns-in-Note-clause-step
returns-in-Note-clause-step g c =
    let p = paper_of c.args.self.now.book c.args.memory.orders.now c.args.fills.orders.now c.args.memory.blocks.now c.args.fills.blocks.now in
    let w = work_lengths c.args.work.now in
    let m = g.L.Accounts.model c.args.ledger.now in
    let i : to_z w32 (of_z w32 c.in-Note.interval) ≡ c.in-Note.interval = omega (arith, ints) in
    let z : to_z w32 (of_z w32 c.in-Note.steps) ≡ c.in-Note.steps = omega (arith, ints) in
    let called = c.in-Note.is ∙ ap (λ (x : ℤ). Note x c.in-Note.steps) (sym i) ∙ ap (λ (x : ℤ). Note (to_z w32 (of_z w32 c.in-Note.interval)) x) (sym z) in
    retaken p w _ _ _ _ _ _ called c.spent-in-Note.ensures (c.note.ensures.step p w c.args.sheet.now m)

pub returns-in-TakeUp-clause-step : goal.returns-in-TakeUp-clause-step
returns-in-TakeUp-clause-step g c =
    let p = paper_of c.args.self.now.book c.args.memory.orders.now c.args.fills.orders.now c.args.memory.blocks.now c.args.fills.blocks.now in
    let w = work_lengths c.args.work.now in
    let m = g.L.Accounts.model c.args.ledger.now in
    let i : to_z w32 (of_z w32 c.in-TakeUp.interval) ≡ c.in-TakeUp.interval = omega (arith, ints) in
    retaken p w _ _ _ _ _ _ (c.in-TakeUp.is ∙ ap TakeUp (sym i)) c.handed-in-TakeUp.ensures (c.take_up.ensures.step p w c.args.sheet.now m)

pub returns-in-Void-clause-step : goal.returns-in-Void-clause-step
returns-in-Void-clause-step g c =
    let p = paper_of c.args.self.now.book c.args.memory.orders.now c.args.fills.orders.now c.args.memory.blocks.now c.args.fills.blocks.now in
    let w = work_lengths c.args.work.now in
    let i : to_z w32 (of_z w32 c.in-Void.interval) ≡ c.in-Void.interval = omega (arith, ints) in
    let s = state_of c.args.self.now.day c.args.sheet.now (g.L.Accounts.model c.args.ledger.now) in
    let t = state_of c.void.new.day c.void.new.sheet (g.L.Accounts.model c.void.new.ledger) in
    retaken p w s _ _ _ _ t (c.in-Void.is ∙ ap Void (sym i)) c.voided.ensures (c.void.ensures.step c.args.fills.orders.now c.args.fills.blocks.now w)
