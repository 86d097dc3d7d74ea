use Rattle.std.proofs.Common.{◌≡◌, ℤ, [], refl, sym, ap, ◌∙◌, arith, w32, to_z, of_z}
use borrow.Author.Differences.{ints}
use Rattle.engine.specs.declared.day.Day.{Day}
use Rattle.engine.specs.declared.call.Call.TheVariants.{Note}
use Rattle.engine.specs.Steps.{paper_of}
use Rattle.engine.proofs.Retaken.{retaken}
use Rattle.runs.specs.Plays.{out_steps}
use Rattle.runs.proofs.Noting.{noted_some, noted_none}
use Rattle.runs.proofs.calls.note_if_out.Goals as goal

pub returns-in-Some-clause-noted : goal.returns-in-Some-clause-noted
returns-in-Some-clause-noted c =
    let d = c.args.running.now.day in
    let i : to_z w32 (of_z w32 c.args.interval) ≡ c.args.interval = omega (arith, ints) in
    let z : to_z w32 (of_z w32 c.in-Some.steps) ≡ c.in-Some.steps = omega (arith, ints) in
    let called = ap (λ (x : ℤ). Note x c.in-Some.steps) (sym i) ∙ ap (λ (x : ℤ). Note (to_z w32 (of_z w32 c.args.interval)) x) (sym z) in
    noted_some d c.note.new.self.day c.args.interval c.in-Some.steps c.note.result (paper_of c.args.running.now.book [] [] [] []) c.requires
    (sym c.in-Some.is ∙ c.out_steps.ensures ∙ ap (λ (x : Day). out_steps x (to_z w32 (of_z w32 c.args.interval))) c.day.ensures ∙ ap (out_steps d) i)
    (λ p w s m. retaken p w _ _ _ _ _ _ called refl (c.note.ensures.step p w s m))

pub returns-in_default-clause-noted : goal.returns-in_default-clause-noted
returns-in_default-clause-noted c =
    let d = c.args.running.now.day in
    let i : to_z w32 (of_z w32 c.args.interval) ≡ c.args.interval = omega (arith, ints) in
    noted_none d c.args.interval c.requires
    (ap (out_steps d) (sym i) ∙ ap (λ (x : Day). out_steps x (to_z w32 (of_z w32 c.args.interval))) (sym c.day.ensures) ∙ sym c.out_steps.ensures ∙ c.in_default.is)
