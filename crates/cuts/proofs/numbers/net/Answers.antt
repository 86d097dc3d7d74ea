use Rattle.std.proofs.Common.{◌≡◌, length, ap, ◌∙◌, arith, rules}
use borrow.Author.Differences.{ints}
use Rattle.std.proofs.lemmas.List.{length_push}
use Rattle.std.proofs.lemmas.Slice.Zip.{zip_turn}
use Rattle.market.specs.Signed.{signed}
use Rattle.cuts.proofs.Walks.{net_more}
use Rattle.cuts.proofs.numbers.net.Goals as goal

pub overflow_add-sum : goal.overflow_add-sum
overflow_add-sum g c =
    let t = zip_turn c.args.entries.now c.args.numbers.now c.loop-entry.yielded c.into_iter-entry-iterator.result c.loop-entry.entry-iterator c.next.new.self _ (cc) (cc) c.loop-entry.yielded_by _ c.in-Some.is c.next.ensures.steps in
    let w = c.loop-entry.invariant.3 in
    let s = c.signed-sum.ensures.small in
    omega (arith, ints)

pub loop-entry-preserved : goal.loop-entry-preserved
loop-entry-preserved g c =
    let t = zip_turn c.args.entries.now c.args.numbers.now c.loop-entry.yielded c.into_iter-entry-iterator.result c.loop-entry.entry-iterator c.next.new.self _ (cc) (cc) c.loop-entry.yielded_by _ c.in-Some.is c.next.ensures.steps in
    let k = g.E.Entry.kind in
    let i = length c.loop-entry.yielded in
    let n = length_push c.loop-entry.yielded (c.in-Some.entry, c.in-Some.number) in
    let w = net_more k c.args.entries.now c.args.numbers.now i c.in-Some.entry.now c.in-Some.number.now (record { in-xs = t.0; in-fs = t.1; entry = t.2 _; fill = t.3 0 }) in
    let s : c.signed-sum.result ≡ signed (k.side c.in-Some.entry.now) c.in-Some.number.now = c.signed-sum.ensures.is ∙ ap (λ d. signed d c.in-Some.number.now) c.side.ensures in
    let m = c.signed-sum.ensures.small in
    let v = c.loop-entry.invariant in
    (search rules, search rules, rw n (omega (arith, ints)), rw n (record { low = omega (arith, ints); high = omega (arith, ints) }))
