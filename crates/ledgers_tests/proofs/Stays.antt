-- After a refusal: both halves of a joined ledger, and the records of a table.
use Rattle.std.proofs.Common.{◌≡◌, List, Ok, Err, Result, OnErr}
use Rattle.ledger.specs.declared.account.Account.{Account}
use Rattle.ledger.specs.declared.refusal.PostRefused.{PostRefused}
use Rattle.ledgers.specs.Join.{join, below, from_on}
use Rattle.ledgers.specs.Table.{table_model, TableKept}
use Rattle.ledgers.proofs.Joins.{halves_stay}
use Rattle.ledgers.proofs.Runs.{records_stay}

pub both_stay : (r : Result (Unit {0}) PostRefused) (m m' k k' : List Account) → OnErr r (join 2 m' k' ≡ join 2 m k) → from_on 2 m ≡ from_on 2 m' → below 2 k ≡ below 2 k' → OnErr r ((m' ≡ m) × (k' ≡ k))
both_stay (Ok _) m m' k k' e f g = tt
both_stay (Err _) m m' k k' e f g = halves_stay 2 m m' k k' e f g

pub table_stays : (r : Result (Unit {0}) PostRefused) (m m' rs ss : List Account) → OnErr r ((m' ≡ m) × (table_model ss ≡ table_model rs)) → TableKept rs ss → OnErr r (ss ≡ rs)
table_stays (Ok _) m m' rs ss e k = tt
table_stays (Err _) m m' rs ss e k = records_stay rs ss e.1 k
