use Rattle.std.proofs.Common.{◌≡◌, ℤ, sym, ap, ◌∙◌, arith, w32, to_z, of_z}
use borrow.Author.Differences.{ints}
use Rattle.engine.specs.declared.call.Call.TheVariants.{Note}
use Rattle.engine.proofs.Retaken.{retaken}
use Rattle.engine.proofs.running.Running.note.Goals as goal

pub returns-clause-step : goal.returns-clause-step
returns-clause-step c =
    let i : to_z w32 (of_z w32 c.args.interval) ≡ c.args.interval = omega (arith, ints) in
    let z : to_z w32 (of_z w32 c.args.steps) ≡ c.args.steps = omega (arith, ints) in
    let called = ap (λ (x : ℤ). Note x c.args.steps) (sym i) ∙ ap (λ (x : ℤ). Note (to_z w32 (of_z w32 c.args.interval)) x) (sym z) in
    λ p w s m. retaken p w _ _ _ _ _ _ called c.spent.ensures (c.note.ensures.step p w s m)
