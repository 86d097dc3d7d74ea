use Rattle.std.proofs.Common.{◌≡◌, false, ltb, length, sym, ap, ◌∙◌, arith}
use Rattle.std.specs.Option.{is_some}
use Rattle.std.proofs.lemmas.List.{get_or_past}
use Rattle.std.proofs.lemmas.Bool.Decides.{nat_tests}
use Rattle.cuts.proofs.Turns.{held_by}
use Rattle.cuts.proofs.stage.take_turn.Goals as goal

pub returns-in-Some-get-clause-loses : goal.returns-in-Some-get-clause-loses
returns-in-Some-get-clause-loses g c =
    let l = c.in-Some.ensures.lookup in
    let h = held_by g.C.Candidate.place c.args.list.now c.args.numbers.now c.args.turn c.in-Some.candidate.now c.place-place.result l.3.0 l.1 c.place-place.ensures in
    let m = c.in-Some-get.ensures.lookup.3.1 0 in
    grind (arith, nat_tests)

pub returns-in_default-get-clause-loses : goal.returns-in_default-get-clause-loses
returns-in_default-get-clause-loses g c =
    let l = c.in-Some.ensures.lookup in
    let h = held_by g.C.Candidate.place c.args.list.now c.args.numbers.now c.args.turn c.in-Some.candidate.now c.place-place.result l.3.0 l.1 c.place-place.ensures in
    let m = c.in-Some-get.ensures.lookup.3.1 0 in
    grind (arith, nat_tests)

pub returns-in_default-get-2-clause-loses : goal.returns-in_default-get-2-clause-loses
returns-in_default-get-2-clause-loses g c =
    let l = c.in-Some.ensures.lookup in
    let h = held_by g.C.Candidate.place c.args.list.now c.args.numbers.now c.args.turn c.in-Some.candidate.now c.place-place.result l.3.0 l.1 c.place-place.ensures in
    let m : ltb c.place-place.result (length c.args.numbers.now) ≡ false = sym c.get-2.ensures.lookup.0 ∙ ap is_some c.in_default-get.is in
    let p = get_or_past c.args.numbers.now c.place-place.result 0 (grind (arith, nat_tests)) in
    grind (arith, nat_tests)
