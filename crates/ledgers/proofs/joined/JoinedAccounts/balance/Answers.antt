use Rattle.std.proofs.Common.{sym, ap, ◌∙◌, ltb-false, ltb-true}
use Rattle.std.specs.Option.{option_map}
use Rattle.ledger.specs.declared.account.Account.{Account}
use Rattle.ledgers.proofs.Joins.{find_low, find_high}
use Rattle.ledgers.proofs.joined.JoinedAccounts.balance.Goals as goal

pub returns-then-is_first : goal.returns-then-is_first
returns-then-is_first g c =
    let j = c.args.self.now in
    let m = g.A.Accounts.model j.first in
    let k = g.B.Accounts.model j.second in
    let lt = ltb-true c.args.account j.border (sym c.if-is_first.ensures) in
    c.balance.ensures ∙ sym (ap (option_map (λ (a : Account). a.balance)) (find_low j.border 0 0 m k c.args.account (g.A.Accounts.lawful j.first) (g.B.Accounts.lawful j.second) lt))

pub returns-else-is_first : goal.returns-else-is_first
returns-else-is_first g c =
    let j = c.args.self.now in
    let m = g.A.Accounts.model j.first in
    let k = g.B.Accounts.model j.second in
    let le = ltb-false c.args.account j.border (sym c.if-is_first.ensures) in
    c.balance-else-is_first.ensures ∙ sym (ap (option_map (λ (a : Account). a.balance)) (find_high j.border m k c.args.account le))
