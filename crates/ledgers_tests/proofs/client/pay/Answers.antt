use Rattle.std.proofs.Common.{rules}
use Rattle.ledgers.specs.Operator.{operators}
use Rattle.ledgers_tests.proofs.Stays.{table_stays}
use Rattle.ledgers_tests.proofs.client.pay.Goals as goal

pub returns-clause-unmoved : goal.returns-clause-unmoved
returns-clause-unmoved c =
    let o = c.new-operator.result in
    let p = c.pay_both.new.first in
    table_stays _ (operators o.exchange o.balancing) (operators p.exchange p.balancing) _ _ (search rules) (search rules)
