use Rattle.std.proofs.Common.{◌≡◌, Some, sym, ◌∙◌, arith, w64, SFits, rules}
use Rattle.std.proofs.lemmas.Int.{to_z-of_z}
use Rattle.ledger.proofs.Places.{lawful-length, number_there, balance_there}
use Rattle.ledger.proofs.sum.balance_at.Goals as goal

pub overflow_add-place : goal.overflow_add-place
overflow_add-place g c =
    let few = lawful-length (g.L.Accounts.model c.args.ledger.now) (g.L.Accounts.lawful c.args.ledger.now) in
    omega arith

pub unwrap-account-requires : goal.unwrap-account-requires
unwrap-account-requires g c =
    let e = c.account_at.ensures ∙ number_there (g.L.Accounts.model c.args.ledger.now) c.args.place c.requires in
    rw e

pub unwrap-requires : goal.unwrap-requires
unwrap-requires g c =
    let m = g.L.Accounts.model c.args.ledger.now in
    let e = c.balance.ensures ∙ balance_there m c.args.place c.unwrap-account.result (g.L.Accounts.lawful c.args.ledger.now) c.requires (sym c.account_at.ensures ∙ c.unwrap-account.ensures) in
    rw e

pub returns : goal.returns
returns g c =
    let m = g.L.Accounts.model c.args.ledger.now in
    let b = c.unwrap.result in
    let f : SFits w64 b = search rules in
    let there = balance_there m c.args.place c.unwrap-account.result (g.L.Accounts.lawful c.args.ledger.now) c.requires (sym c.account_at.ensures ∙ c.unwrap-account.ensures) in
    let e : Some b ≡ Some _ = sym c.unwrap.ensures ∙ c.balance.ensures ∙ there in
    to_z-of_z w64 b f ∙ cc
