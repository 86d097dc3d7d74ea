use Rattle.std.proofs.Common.{◌≡◌, ◌*◌, drop, pos, ◌+ℤ◌, neg_ℤ, ◌≤ℤ◌}
use Rattle.ledger.specs.Model.{total}
use Rattle.ledger.proofs.sum.sum_of_balances.Given as goal

-- the sum so far and what is left make the whole, and the sum is bounded
abbrev pub invariant-loop-place : goal.invariant-loop-place
invariant-loop-place g l = let m = g.L.Accounts.model l.ledger in (l.sum +ℤ total (drop l.place m) ≡ total m) × (neg_ℤ (pos (l.place * 10000000000000000)) ≤ℤ l.sum) × (l.sum ≤ℤ pos (l.place * 10000000000000000))
