use Rattle.std.proofs.Common.{rules}
use Rattle.verdict.proofs.Sizes.{worth_small}
use Rattle.verdict.proofs.welfare.block_worth.Goals as goal

pub returns-clause-small : goal.returns-clause-small
returns-clause-small c =
    let small = worth_small c.worth.result c.args.block.now c.worth.ensures.small c.requires.1 in
    search rules
