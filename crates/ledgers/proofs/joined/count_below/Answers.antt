use Rattle.std.proofs.Common.{◌+◌, ◌-◌, ◌/◌, ◌<◌, length, sym, arith}
use Rattle.ledgers.proofs.Joins.{split-length, lies_under, lies_over}
use Rattle.ledgers.proofs.joined.count_below.Goals as goal

pub loop-low-init : goal.loop-low-init
loop-low-init g c =
    let s = split-length c.args.border (g.L.Accounts.model c.args.accounts.now) in
    (omega arith, omega (arith, c.count-high.ensures), omega (arith, c.count-high.ensures))

pub loop-low-preserved-then-lies_below : goal.loop-low-preserved-then-lies_below
loop-low-preserved-then-lies_below g c =
    let m = g.L.Accounts.model c.args.accounts.now in
    let i = c.loop-low.low + (c.loop-low.high - c.loop-low.low) / 2 in
    let lt : i < length m = omega arith in
    let k = lies_under c.args.border m i (g.L.Accounts.lawful c.args.accounts.now) lt (sym c.if-lies_below.ensures) in
    (omega arith, omega arith, omega arith)

pub loop-low-preserved : goal.loop-low-preserved
loop-low-preserved g c =
    let m = g.L.Accounts.model c.args.accounts.now in
    let i = c.loop-low.low + (c.loop-low.high - c.loop-low.low) / 2 in
    let lt : i < length m = omega arith in
    let k = lies_over c.args.border m i lt (sym c.if-lies_below.ensures) in
    (omega arith, omega arith, omega arith)
