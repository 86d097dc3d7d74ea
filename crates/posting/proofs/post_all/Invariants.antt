use Rattle.std.proofs.Common.{◌≡◌}
use Rattle.posting.specs.Postings.{listed, posted_all, AllTaken}
use Rattle.posting.proofs.post_all.Given as goal

-- all before the place are posted, and were taken
abbrev pub invariant-loop-place : goal.invariant-loop-place
invariant-loop-place g l = let m = g.L.Accounts.model l.initial.ledger in let ps = listed (g.S.Source.slot l.source) l.place in record {
  posted : g.L.Accounts.model l.ledger ≡ posted_all m ps;
  taken : AllTaken m ps;
  kept : g.L.Ledger.kept l.initial.ledger l.ledger;
}
