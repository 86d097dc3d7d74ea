use Rattle.std.proofs.Common.{◌≡◌, drop}
use Rattle.entries.specs.Settles.{SameSlices}
use Rattle.engine.specs.Steps.{paper_of, state_of}
use Rattle.runs.specs.Runs.{Run}
use Rattle.runs.specs.Plays.{told}
use Rattle.runs.proofs.calls.carry_out_all.Given as goal

abbrev pub invariant-loop-place : goal.invariant-loop-place
invariant-loop-place g l =
    Run (paper_of l.initial.running.book l.memory.orders.now l.fills.orders.now l.memory.blocks.now l.fills.blocks.now)
    (state_of l.initial.running.day l.initial.sheet (g.L.Accounts.model l.initial.ledger))
    (told l.calls l.outcomes l.place)
    (state_of l.running.day l.sheet (g.L.Accounts.model l.ledger))
    × (l.running.book ≡ l.initial.running.book)
    × (drop l.place l.outcomes ≡ drop l.place l.initial.outcomes)
    × g.L.Ledger.kept l.initial.ledger l.ledger
    × SameSlices l.initial.work l.work
