use Rattle.std.proofs.Common.{◌≡◌, neg_ℤ, refl, ap, ◌∙◌}
use Rattle.ledger.specs.Model.{Lawful, find, answer, after, total}
use Rattle.ledger.proofs.Posting.{by_answer, lawful-posted, find_posted, total-posted, back_taken, taken_back, after_taken}
use Rattle.ledger.proofs.laws.laws_stand.Goals as goal

pub returns-clause-lawful : goal.returns-clause-lawful
returns-clause-lawful c = λ m n x f. by_answer Lawful m n x (lawful-posted m n x f) f

pub returns-clause-others : goal.returns-clause-others
returns-clause-others c = λ m n x k ne. by_answer (λ l. find l k ≡ find m k) m n x (λ _. find_posted m n x k ne) refl

pub returns-clause-moves : goal.returns-clause-moves
returns-clause-moves c = λ m n x e. ap total (after_taken m n x e) ∙ total-posted m n x e

pub returns-clause-returns : goal.returns-clause-returns
returns-clause-returns c = λ m n x f e. (
  ap (λ l. answer l n (neg_ℤ x)) (after_taken m n x e) ∙ back_taken m n x f e,
  ap (λ l. after l n (neg_ℤ x)) (after_taken m n x e) ∙ taken_back m n x f e,
)
