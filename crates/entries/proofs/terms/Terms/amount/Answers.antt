use Rattle.std.proofs.Common.{w64}
use Rattle.std.proofs.lemmas.Int.{to_z-of_z}
use Rattle.entries.specs.Amounts.{conditions, worth}
use Rattle.entries.proofs.Products.{worth_small, worth_fits, amount_is}
use Rattle.entries.proofs.terms.Terms.amount.Goals as goal

pub overflow_mul-result-2 : goal.overflow_mul-result-2
overflow_mul-result-2 c =
    rw (amount_is c.args.self c.args.steps c.requires _ _ c.from.ensures c.from-2.ensures) (worth_fits c.args.self c.args.steps c.requires)

pub returns : goal.returns
returns c =
    let t = c.args.self in
    let z = c.args.steps in
    let is = amount_is t z c.requires _ _ c.from.ensures c.from-2.ensures in
    let same = to_z-of_z w64 (worth (conditions t) z) (worth_fits t z c.requires) in
    record { is = rw is same; small = rw (is, same) (worth_small t z c.requires) }
