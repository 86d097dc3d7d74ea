use Rattle.std.proofs.Common.{w32, w64, SFits, rules}
use Rattle.std.proofs.lemmas.Int.{to_z-of_z}
use Rattle.entries.proofs.Products.{owed_small}
use Rattle.entries.proofs.amounts.exchange.Goals as goal

pub returns-clause-small : goal.returns-clause-small
returns-clause-small c =
    let r32 : SFits w32 c.args.terms.rounded = search rules in
    let o64 : SFits w64 c.owed.result = search rules in
    let owed = simp to_z-of_z at c.owed.ensures in
    simp to_z-of_z (rw owed (owed_small c.args.terms c.args.terms.rounded (search rules)))
