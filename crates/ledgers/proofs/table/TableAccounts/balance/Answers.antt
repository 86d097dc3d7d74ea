use Rattle.std.proofs.Common.{get_or, Some, sym, ap, ◌∙◌, w64, SFits, rules}
use Rattle.std.proofs.lemmas.Int.{to_z-of_z}
use Rattle.std.specs.Option.{option_map}
use Rattle.ledger.specs.declared.account.Account.{Account}
use Rattle.ledger.specs.Model.{blank, balance_of}
use Rattle.ledger.proofs.Places.{found_at, not_found}
use Rattle.ledgers.proofs.table.TableAccounts.balance.Goals as goal

pub returns-in_err-place : goal.returns-in_err-place
returns-in_err-place c =
    let m = c.open_part-accounts.result.now in
    let n = c.args.account in
    c.from_residual.ensures ∙ sym (ap (option_map (λ (a : Account). a.balance)) (not_found m n blank c.in_err-place.ensures)) ∙ ap (λ l. balance_of l n) c.open_part-accounts.ensures.model

pub returns : goal.returns
returns c =
    let h = c.in_ok-place.ensures in
    let m = c.open_part-accounts.result.now in
    let i = c.in_ok-place.place in
    let n = c.args.account in
    let e = ap (option_map (λ (a : Account). a.balance)) (found_at m i n blank h.inside h.here h.before) in
    let f : SFits w64 (get_or m i blank).balance = search rules in
    ap Some (to_z-of_z w64 (get_or m i blank).balance f) ∙ sym e ∙ ap (λ l. balance_of l n) c.open_part-accounts.ensures.model
