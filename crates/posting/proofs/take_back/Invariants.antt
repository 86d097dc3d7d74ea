use Rattle.std.proofs.Common.{◌≡◌}
use Rattle.posting.specs.Postings.{undone}
use Rattle.posting.proofs.take_back.Given as goal

-- what is left to take back leaves what all of it leaves
abbrev pub invariant-loop-place : goal.invariant-loop-place
invariant-loop-place g l = let f = g.S.Source.slot l.source in record {
  undoes : undone (g.L.Accounts.model l.ledger) f l.place ≡ undone (g.L.Accounts.model l.initial.ledger) f l.places;
  kept : g.L.Ledger.kept l.initial.ledger l.ledger;
}
