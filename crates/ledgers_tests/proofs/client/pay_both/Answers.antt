use Rattle.std.proofs.Common.{rules}
use Rattle.ledgers_tests.proofs.Stays.{both_stay}
use Rattle.ledgers_tests.proofs.client.pay_both.Goals as goal

pub returns-clause-unmoved : goal.returns-clause-unmoved
returns-clause-unmoved g c = both_stay _ _ _ _ _ (search rules) (search rules) (search rules)
