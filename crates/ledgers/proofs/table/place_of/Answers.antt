use Rattle.std.proofs.Common.{rules}
use Rattle.std.proofs.lemmas.List.Sorted.{answers_always}
use Rattle.ledgers.proofs.Searches.{searched}
use Rattle.ledgers.proofs.table.place_of.Goals as goal

-- the closure gives an account's number
pub returns : goal.returns
returns c =
    let facts = c.binary_search_by_key.ensures in
    let by_number = facts.position (λ account. account.number) (answers_always _ _ _ (λ f a r g called. search rules)) in
    rw c.ok.ensures.value (searched c.args.accounts.now c.requires c.args.number c.binary_search_by_key.result facts.bound by_number)
