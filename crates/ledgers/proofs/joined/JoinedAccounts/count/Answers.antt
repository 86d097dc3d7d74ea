use Rattle.std.proofs.Common.{arith}
use Rattle.ledger.proofs.Places.{lawful-length}
use Rattle.ledgers.proofs.Joins.{split-length, join-length}
use Rattle.ledgers.proofs.joined.JoinedAccounts.count.Goals as goal

pub overflow_sub-result : goal.overflow_sub-result
overflow_sub-result g c =
    let j = c.args.self.now in
    let s = split-length j.border (g.B.Accounts.model j.second) in
    omega (arith, c.count_below-skipped.ensures, c.count.ensures)

pub overflow_add-result : goal.overflow_add-result
overflow_add-result g c =
    let j = c.args.self.now in
    let m = g.A.Accounts.model j.first in
    let k = g.B.Accounts.model j.second in
    let s = split-length j.border m in
    let f = lawful-length m (g.A.Accounts.lawful j.first) in
    let h = lawful-length k (g.B.Accounts.lawful j.second) in
    omega (arith, c.count_below-low.ensures, c.count_below-skipped.ensures, c.count.ensures)

pub returns : goal.returns
returns g c =
    let j = c.args.self.now in
    let m = g.A.Accounts.model j.first in
    let k = g.B.Accounts.model j.second in
    let e = join-length j.border m k in
    omega (arith, c.count_below-low.ensures, c.count_below-skipped.ensures, c.count.ensures)
