use Rattle.std.proofs.Common.{sym, refl, ap, ◌∙◌, ltb-false, ltb-true}
use Rattle.std.proofs.lemmas.Int.{to_z-of_z}
use Rattle.ledgers.specs.Join.{join, below, from_on}
use Rattle.ledgers.proofs.Joins.{low_answer, low_after, low_keeps, high_answer, high_after, high_keeps}
use Rattle.ledgers.proofs.joined.JoinedLedger.post.Goals as goal

pub returns-then-is_first : goal.returns-then-is_first
returns-then-is_first g c =
    let j = c.args.self.now in
    let b = j.border in
    let m = g.A.Accounts.model j.first in
    let k = g.B.Accounts.model j.second in
    let n = c.args.account in
    let x = c.args.amount in
    let f = g.A.Accounts.lawful j.first in
    let h = g.B.Accounts.lawful j.second in
    let lt = ltb-true n b (sym c.if-is_first.ensures) in
    let fits = c.ranges.amount in
    let a = simp to_z-of_z at c.post.ensures.answers in
    let p = simp to_z-of_z at c.post.ensures.posts in
    record {
      answers = a ∙ sym (low_answer b m k n x f h lt);
      posts = ap (λ z. join b z k) p ∙ low_after b m k n x f h lt;
      keeps = (refl, c.post.ensures.keeps, g.B.Ledger.unmoved j.second, low_keeps b m k n x f h lt ∙ ap (from_on b) (sym p), refl);
    }

pub returns-else-is_first : goal.returns-else-is_first
returns-else-is_first g c =
    let j = c.args.self.now in
    let b = j.border in
    let m = g.A.Accounts.model j.first in
    let k = g.B.Accounts.model j.second in
    let n = c.args.account in
    let x = c.args.amount in
    let le = ltb-false n b (sym c.if-is_first.ensures) in
    let fits = c.ranges.amount in
    let a = simp to_z-of_z at c.post-else-is_first.ensures.answers in
    let p = simp to_z-of_z at c.post-else-is_first.ensures.posts in
    record {
      answers = a ∙ sym (high_answer b m k n x le);
      posts = ap (λ z. join b m z) p ∙ high_after b m k n x le;
      keeps = (refl, g.A.Ledger.unmoved j.first, c.post-else-is_first.ensures.keeps, refl, high_keeps b m k n x le ∙ ap (below b) (sym p));
    }
