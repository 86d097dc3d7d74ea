use Rattle.std.proofs.Common.{◌≡◌, ◌+◌, length, drop}
use Rattle.ledgers.specs.Table.{run, open_records}
use Rattle.ledgers.proofs.table.open_count.Given as goal

-- the accounts so far and the run that is left make the whole
abbrev pub invariant-loop-open : goal.invariant-loop-open
invariant-loop-open l = l.«open» + length (run l.least (drop l.«open» l.few)) ≡ open_records l.records
