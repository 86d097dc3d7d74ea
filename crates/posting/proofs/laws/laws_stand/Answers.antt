use Rattle.posting.proofs.Order.{answers_tells, tells_answers, total_all, undone_all}
use Rattle.posting.proofs.laws.laws_stand.Goals as goal

pub returns : goal.returns
returns c = record {
  foremost = λ m ps r. (tells_answers m ps r, answers_tells m ps r);
  moves = total_all;
  undone = λ m f n l t. undone_all f m n l t;
}
