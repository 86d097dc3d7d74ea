use Rattle.std.proofs.Common.{◌-◌, ◌≤◌, length}
use Rattle.ledgers.specs.Join.{below}
use Rattle.ledgers.proofs.joined.count_below.Given as goal

-- the count lies between the two ends
abbrev pub invariant-loop-low : goal.invariant-loop-low
invariant-loop-low g l = let m = g.L.Accounts.model l.accounts in (l.low ≤ length (below l.border m)) × (length (below l.border m) ≤ l.high) × (l.high ≤ length m)

abbrev pub decreases-loop-low : goal.decreases-loop-low
decreases-loop-low g l = l.high - l.low
