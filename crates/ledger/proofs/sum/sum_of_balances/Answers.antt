use Rattle.std.proofs.Common.{◌<◌, ◌≤◌, length, arith}
use Rattle.std.proofs.lemmas.Int.{ints}
use Rattle.ledger.specs.Model.{blank, total}
use Rattle.ledger.proofs.Places.{lawful-length, sound_at, total_more, total_all}
use Rattle.ledger.proofs.sum.sum_of_balances.Goals as goal

pub loop-place-preserved : goal.loop-place-preserved
loop-place-preserved g c =
    let m = g.L.Accounts.model c.args.ledger.now in
    let i = c.loop-place.place in
    let lt : i < length m = omega (arith, c.count-place-end.ensures) in
    let few = lawful-length m (g.L.Accounts.lawful c.args.ledger.now) in
    let s = sound_at 0 m i blank (g.L.Accounts.lawful c.args.ledger.now) lt in
    let inv = c.loop-place.invariant in
    let is = c.balance_at.ensures in
    (total_more m i blank _ _ (total m) lt inv.0 (omega (arith, ints)), omega (arith, ints), omega (arith, ints))

pub returns : goal.returns
returns g c =
    let m = g.L.Accounts.model c.args.ledger.now in
    let le : length m ≤ c.loop-place.place = omega (arith, c.count-place-end.ensures) in
    total_all m c.loop-place.place _ (total m) le c.loop-place.invariant.0
