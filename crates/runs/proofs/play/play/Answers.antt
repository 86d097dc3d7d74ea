use Rattle.std.proofs.Common.{◌≡◌, ℤ, length, take, Ok, Result, sym, ap, ◌∙◌, subst, w64, SFits, to_z, of_z, rules}
use Rattle.std.proofs.lemmas.Int.{to_z-of_z}
use Rattle.std.specs.Result.{result_and}
use Rattle.verdict.specs.Balance.{welfare}
use Rattle.engine.specs.declared.book.Counts.{Counts}
use Rattle.engine.specs.declared.book.Passed.{Passed}
use Rattle.engine.specs.declared.day.Day.{Day}
use Rattle.engine.specs.declared.refusal.Refusal.{Refusal}
use Rattle.engine.specs.Judging.{judge_answer}
use Rattle.engine.specs.Steps.{paper_of, state_of}
use Rattle.runs.specs.Runs.{Run}
use Rattle.runs.specs.Plays.{told, playable, of_market}
use Rattle.runs.proofs.Playing.{passes_from, played, nothing_in}
use Rattle.runs.proofs.play.play.Goals as goal

pub returns-in-Ok-clause-plays : goal.returns-in-Ok-clause-plays
returns-in-Ok-clause-plays g c =
    let closed = c.args.closed in
    let d = c.args.day in
    let os = c.args.memory.orders.now in
    let fs = c.args.fills.orders.now in
    let bs = c.args.memory.blocks.now in
    let gs = c.args.fills.blocks.now in
    let cs = c.args.calls.now in
    let outs = c.args.outcomes.now in
    let outs' = c.carry_out_all.new.outcomes in
    let s = c.args.sheet.now in
    let s' = c.carry_out_all.new.sheet in
    let m = g.L.Accounts.model c.args.ledger.now in
    let m' = g.L.Accounts.model c.carry_out_all.new.ledger in
    let after = c.carry_out_all.new.running.day in
    let book = c.close.result.0 in
    let y : ℤ = c.in-Ok.field-0.welfare in
    let w : SFits w64 y = search rules in
    let fits : to_z w64 (of_z w64 y) ≡ y = to_z-of_z w64 y w in
    let may : playable d (length cs) (length outs) ≡ Ok tt = sym c.check.ensures ∙ c.in_default.is in
    let same : c.begin-running.result.book ≡ book = sym (c.close.ensures.book ∙ c.carry_out_all.ensures.book) in
    let counts : book.counts ≡ closed.counts = ap (λ (b : Passed). b.counts) (sym same ∙ c.begin-running.ensures.0) ∙ c.in-Ok.ensures.hands in
    let judged = c.in-Ok.ensures.judged in
    let run = subst (λ (b : Passed). Run (paper_of b os fs bs gs) (state_of d s m) (told cs outs' (length cs)) (state_of after s' m')) same
    (subst (λ (x : Day). Run (paper_of c.begin-running.result.book os fs bs gs) (state_of x s m) (told cs outs' (length cs)) (state_of after s' m')) c.begin-running.ensures.1 c.carry_out_all.ensures.run) in (
      ap (λ (r : Result Unit Refusal). result_and r (of_market (judge_answer closed d os fs bs gs))) may ∙ ap of_market (sym c.in-Ok.ensures.exact) ∙ ap (λ (x : ℤ). Ok x) (sym fits),
      counts,
      fits ∙ judged.1 ∙ ap (λ (k : Counts). welfare (take k.orders os) fs (take k.blocks bs) gs) (sym counts),
      played (paper_of book os fs bs gs) d after c.close.result.1 s s' m m' cs outs outs' (passes_from closed book d os fs bs gs counts judged.0)
          (nothing_in d (length cs) (length outs) may) run c.close.ensures.noted c.close.ensures.none c.carry_out_all.ensures.rest,
    )
