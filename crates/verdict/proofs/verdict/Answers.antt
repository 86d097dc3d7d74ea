use Rattle.verdict.proofs.Passing.{judged}
use Rattle.verdict.proofs.Rivals.{best_if}
use Rattle.verdict.proofs.verdict.Goals as goal

pub returns : goal.returns
returns c =
    let e = c.examine.ensures in
    let j = judged _ _ _ _ _ _ e in
    record { exact = e; judged = j; best = best_if _ _ _ _ _ _ j }
