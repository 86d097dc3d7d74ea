use Rattle.std.proofs.Common.{◌≡◌, ◌∙◌, w32, w64, SFits, rules}
use Rattle.std.proofs.lemmas.Int.{to_z-of_z}
use Rattle.std.proofs.lemmas.Bool.{cond-true}
use Rattle.entries.specs.Settles.{settlement_of, settle_numbers, settle_steps}
use Rattle.entries.proofs.Checking.{sizes, some_is, front_is}
use Rattle.entries.proofs.Readiness.{steps_small, steps_fit}
use Rattle.entries.proofs.task.Task.settle_numbers.Goals as goal

steps_are : (c : goal.After-unwrap-steps) → c.unwrap-steps.result ≡ settle_steps (settlement_of c.args.self)
unfolding settle_steps
steps_are c =
    let r32 : SFits w32 c.args.self.delivery.terms.rounded = search rules in
    some_is _ _ _ _ (sizes _ _ c.requires) c.unwrap-steps.ensures (simp to_z-of_z at c.settled_numbers.ensures.remainder)

steps_32 : (c : goal.After-unwrap-steps) → SFits w32 c.unwrap-steps.result
steps_32 c = rw (steps_are c) (steps_fit _ (steps_small (settlement_of c.args.self) _ c.requires c.args.self.delivery.terms.lawful.1))

pub overflow_cast-result : goal.overflow_cast-result
overflow_cast-result c =
    let s64 : SFits w64 c.unwrap-steps.result = search rules in
    simp to_z-of_z (steps_32 c)

pub returns-clause-steps : goal.returns-clause-steps
returns-clause-steps c =
    let s64 : SFits w64 c.unwrap-steps.result = search rules in
    let s32 : SFits w32 c.unwrap-steps.result = steps_32 c in
    simp to_z-of_z (steps_are c)

pub returns-clause-numbers : goal.returns-clause-numbers
unfolding settle_numbers
returns-clause-numbers c =
    let r32 : SFits w32 c.args.self.delivery.terms.rounded = search rules in
    front_is _ _ c.requires _ _ ((simp to_z-of_z at c.settled_numbers.ensures.numbers) ∙ cond-true _ _ _ (sizes _ _ c.requires))
