use Rattle.std.proofs.Common.{length, ◌∙◌, arith, rules}
use Rattle.std.proofs.lemmas.List.{length_push}
use Rattle.cuts.proofs.Walks.{numbered_turn, rounded_more}
use Rattle.cuts.proofs.numbers.write_rounded.Goals as goal

pub loop-place-preserved : goal.loop-place-preserved
loop-place-preserved g c =
    let xs = c.args.paper.now.entries.now in
    let fs = c.args.paper.now.fills.now in
    let r = numbered_turn xs fs c.loop-place.yielded c.into_iter-place-iterator.result c.loop-place.place-iterator c.next.new.self _ (c.in-Some.place, (c.in-Some.entry, c.in-Some.fill)) (cc) (cc) (cc) c.loop-place.yielded_by c.in-Some.is c.next.ensures.steps in
    let k = g.E.Entry.kind in
    let i = length c.loop-place.yielded in
    let n = length_push c.loop-place.yielded (c.in-Some.place, (c.in-Some.entry, c.in-Some.fill)) in
    let w = rounded_more k xs fs i c.in-Some.entry.now c.in-Some.fill.now r.1 c.args.interval c.loop-place.numbers (omega arith) in
    let v = c.number.ensures in
    let at = r.0 in
    (search rules, search rules, rw (n, at, v) (w ∙ c.loop-place.invariant.2))
