use Rattle.std.proofs.Common.{◌≡◌, map, length, sym, ap, ◌∙◌, arith}
use Rattle.std.proofs.lemmas.List.{length-map}
use Rattle.cuts.specs.Stages.{next_turn, Cut}
use Rattle.cuts.proofs.Turns.{cut_more, cut_over, turn_within}
use Rattle.cuts.proofs.stage.run_turns.Goals as goal

pub next_turn-turn-requires : goal.next_turn-turn-requires
next_turn-turn-requires g c =
    let ps = map g.C.Candidate.place c.args.list.now in
    let w = turn_within ps c.loop-left.numbers c.loop-left.turn (sym c.if-take_turn.ensures.loses) in
    omega (arith, length-map c.args.list.now g.C.Candidate.place)

pub loop-left-preserved : goal.loop-left-preserved
loop-left-preserved g c =
    let ps = map g.C.Candidate.place c.args.list.now in
    let n : length ps ≡ length c.args.list.now = length-map c.args.list.now g.C.Candidate.place in
    let u : c.next_turn-turn.result ≡ next_turn (length ps) c.loop-left.turn = c.next_turn-turn.ensures ∙ ap (λ k. next_turn k c.loop-left.turn) (sym n) in
    cut_more ps c.loop-left.turn c.loop-left.numbers c.take_turn.new.numbers c.loop-left.left c.next_turn-turn.result c.loop-left-test.true c.if-take_turn.ensures.loses c.if-take_turn.ensures.numbers u ∙ c.loop-left.invariant

pub returns-else-take_turn : goal.returns-else-take_turn
returns-else-take_turn g c =
    let ps = map g.C.Candidate.place c.args.list.now in
    let e = sym (cut_over ps c.loop-left.turn c.loop-left.numbers c.take_turn.new.numbers c.loop-left.left c.if-take_turn.ensures.loses c.if-take_turn.ensures.numbers) ∙ c.loop-left.invariant in
    record { numbers = ap (λ (x : Cut). x.numbers) e; left = ap (λ (x : Cut). x.left) e }
