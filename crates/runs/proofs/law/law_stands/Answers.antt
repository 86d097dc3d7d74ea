use Rattle.runs.proofs.Lawful.{every_run}
use Rattle.runs.proofs.law.law_stands.Goals as goal

pub returns : goal.returns
returns c = every_run
