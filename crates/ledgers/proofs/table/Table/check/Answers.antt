use Rattle.ledgers.proofs.Runs.{checks}
use Rattle.ledgers.proofs.table.Table.check.Goals as goal

pub returns-clause-says : goal.returns-clause-says
returns-clause-says c = (checks c.args.self.now.records.now c.check_run.result).1 c.check_run.ensures
