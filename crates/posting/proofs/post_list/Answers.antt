use Rattle.std.proofs.Common.{subst}
use Rattle.posting.specs.Laws.{Summed}
use Rattle.posting.proofs.Order.{listed_all}
use Rattle.posting.proofs.post_list.Goals as goal

pub returns-clause-answers : goal.returns-clause-answers
returns-clause-answers g c = simp listed_all at c.post_all.ensures.answers

pub returns-clause-posts : goal.returns-clause-posts
returns-clause-posts g c = simp listed_all at c.post_all.ensures.posts

pub returns-clause-sums : goal.returns-clause-sums
returns-clause-sums g c = subst (λ ps. Summed c.post_all.result ps (g.L.Accounts.model c.args.ledger.now) (g.L.Accounts.model c.post_all.new.ledger)) (listed_all c.args.postings.now) c.post_all.ensures.sums
