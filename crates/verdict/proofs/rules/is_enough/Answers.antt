use Rattle.std.proofs.Common.{rules}
use Rattle.verdict.proofs.Sizes.{share_small}
use Rattle.verdict.proofs.rules.is_enough.Goals as goal

pub overflow_mul-result : goal.overflow_mul-result
overflow_mul-result c =
    let b = c.args.block.now in
    let small = share_small b.least b.quantity c.requires.0 c.requires.1 in
    search rules

pub returns : goal.returns
returns c =
    let b = c.args.block.now in
    let small = share_small b.least b.quantity c.requires.0 c.requires.1 in
    search rules
