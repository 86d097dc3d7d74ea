use Rattle.std.proofs.Common.{◌≡◌, ℕ, suc, pos, ◌+ℤ◌, nat_abs, sym, refl, ap, ◌∙◌, subst, add-one, arith, w32, to_z, of_z}
use borrow.Author.Differences.{ints, abs_is}
use Rattle.engine.specs.declared.day.Day.{Day}
use Rattle.runs.specs.Plays.{NotedAt, NotedTo}
use Rattle.runs.proofs.Noting.{noted_first, noted_next}
use Rattle.runs.proofs.calls.note_rest.Goals as goal

pub loop-place-init : goal.loop-place-init
loop-place-init c = (noted_first c.args.running.now.day, refl)

pub loop-place-preserved : goal.loop-place-preserved
loop-place-preserved c =
    let l = c.loop-place in
    let d = c.args.running.now.day in
    let most = d.sound.2 in
    let count = c.count-count.ensures ∙ ap (λ (x : Day). x.count) c.day.ensures in
    let number : nat_abs (to_z w32 (of_z w32 (to_z w32 l.place +ℤ pos 1))) ≡ suc l.place = omega (arith, ints, abs_is (to_z w32 (of_z w32 (to_z w32 l.place +ℤ pos 1)))) in
    let noted = noted_next d l.running.day c.note_if_out.new.running.day l.place l.invariant.0 (subst (λ (k : ℕ). NotedAt l.running.day k c.note_if_out.new.running.day) number c.note_if_out.ensures.noted) in
    (subst (λ (k : ℕ). NotedTo d k c.note_if_out.new.running.day) (sym (add-one l.place)) noted, c.note_if_out.ensures.book ∙ l.invariant.1)
