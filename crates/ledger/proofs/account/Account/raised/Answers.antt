use Rattle.std.proofs.Common.{rules, ◌∙◌, w64, SFits}
use Rattle.std.proofs.lemmas.Int.{to_z-of_z}
use Rattle.ledger.proofs.Bounds.{le_answers, lets_through}
use Rattle.ledger.proofs.account.Account.raised.Goals as goal

pub returns : goal.returns
returns c =
    let n = c.new-bounds.ensures in
    let low : SFits w64 c.args.self.lower = search rules in
    let high : SFits w64 c.args.self.upper = search rules in
    let held : SFits w64 c.args.self.balance = search rules in
    let added = c.ranges.amount in
    let sum : SFits w64 c.in_ok-balance.balance = search rules in
    let inside = simp (n.start, n.end, n.exhausted, to_z-of_z, le_answers) at c.contains.ensures.value in
    let raises = simp to_z-of_z at c.in_ok-balance.ensures.1 in
    simp to_z-of_z at c.then_some.ensures ∙ lets_through c.args.self c.args.amount c.in_ok-balance.balance c.contains.result raises inside
