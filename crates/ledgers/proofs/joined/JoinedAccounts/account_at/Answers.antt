use Rattle.std.proofs.Common.{◌≡◌, ◌+◌, ◌-◌, ◌<◌, ◌≤◌, length, sym, ap, ◌∙◌, arith}
use Rattle.ledger.specs.Model.{number_at}
use Rattle.ledger.proofs.Places.{number_past, lawful-length}
use Rattle.ledgers.specs.Join.{below}
use Rattle.ledgers.proofs.Joins.{place-low, place-high}
use Rattle.ledgers.proofs.joined.JoinedAccounts.account_at.Goals as goal

pub returns-then-place-low : goal.returns-then-place-low
returns-then-place-low g c =
    let j = c.args.self.now in
    let m = g.A.Accounts.model j.first in
    let k = g.B.Accounts.model j.second in
    let le : c.args.place ≤ length (below j.border m) = omega (arith, c.count_below-low.ensures) in
    c.account_at.ensures ∙ sym (place-low j.border m k c.args.place le)

pub returns : goal.returns
returns g c =
    let j = c.args.self.now in
    let b = j.border in
    let m = g.A.Accounts.model j.first in
    let k = g.B.Accounts.model j.second in
    let p = c.args.place in
    let lt : length (below b m) < p = omega (arith, c.count_below-low.ensures) in
    let e : c.in_ok-later.later ≡ p - length (below b m) + length (below b k) = omega (arith, c.count_below-low.ensures, c.count_below-skipped.ensures, c.in_ok-later.ensures.1) in
    c.account_at-2.ensures ∙ ap (number_at k) e ∙ sym (place-high b m k p lt)

pub returns-in_err-later : goal.returns-in_err-later
returns-in_err-later g c =
    let j = c.args.self.now in
    let b = j.border in
    let m = g.A.Accounts.model j.first in
    let k = g.B.Accounts.model j.second in
    let p = c.args.place in
    let lt : length (below b m) < p = omega (arith, c.count_below-low.ensures) in
    let far : 18446744073709551616 ≤ p - length (below b m) + length (below b k) = omega (arith, c.count_below-low.ensures, c.count_below-skipped.ensures, c.in_err-later.ensures) in
    let few = lawful-length k (g.B.Accounts.lawful j.second) in
    c.from_residual.ensures ∙ sym (place-high b m k p lt ∙ number_past k (p - length (below b m) + length (below b k)) (omega arith))
