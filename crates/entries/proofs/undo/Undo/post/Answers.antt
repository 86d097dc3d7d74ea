use Rattle.std.proofs.Common.{ap, ◌∙◌}
use Rattle.posting.specs.Postings.{answers, left}
use Rattle.entries.specs.Voids.{reversal_of}
use Rattle.entries.proofs.Voids.{voids_listed}
use Rattle.entries.proofs.undo.Undo.post.Goals as goal

pub returns-clause-answers : goal.returns-clause-answers
returns-clause-answers g c = c.post_all.ensures.answers ∙ ap (answers (g.L.Accounts.model c.args.ledger.now)) (voids_listed (reversal_of c.args.self) c.args.sheet.now)

pub returns-clause-posts : goal.returns-clause-posts
returns-clause-posts g c = c.post_all.ensures.posts ∙ ap (left (g.L.Accounts.model c.args.ledger.now)) (voids_listed (reversal_of c.args.self) c.args.sheet.now)
