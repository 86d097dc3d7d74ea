use Rattle.ledgers.proofs.Tables.{open_most, model-front}
use Rattle.ledgers.proofs.Runs.{table_longest, checks, posts_only, records_stay}
use Rattle.ledgers.proofs.Joins.{join_finds, join-total, halves_stay}
use Rattle.ledgers.proofs.laws.laws_stand.Goals as goal

pub returns : goal.returns
returns c = record {
  leads = λ rs. (model-front rs, open_most rs);
  longest = table_longest;
  checks = checks;
  only = posts_only;
  records = records_stay;
  finds = join_finds;
  sums = join-total;
  halves = halves_stay;
}
