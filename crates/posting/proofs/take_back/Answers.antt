use Rattle.std.proofs.Common.{◌≡◌, IfSome, ◌-◌, ◌-ℤ◌, neg_ℤ, pos, sym, subst, arith, rules, w64, SFits}
use Rattle.std.proofs.lemmas.Int.{ints, to_z-of_z}
use Rattle.posting.specs.Postings.{Small}
use Rattle.posting.proofs.Order.{undone_more}
use Rattle.posting.proofs.take_back.Goals as goal

pub loop-place-preserved-in-Some : goal.loop-place-preserved-in-Some
loop-place-preserved-in-Some g c =
    let f = g.S.Source.slot c.args.source.now in
    let p = c.in-Some.posting in
    let small : Small p = subst (λ o. IfSome o Small) (sym c.in-Some.ensures) (c.requires (c.loop-place.place - 1) (omega arith)) in
    let fits : SFits w64 p.amount = search rules in
    let opposite : SFits w64 (neg_ℤ p.amount) = search rules in
    let negated : pos 0 -ℤ p.amount ≡ neg_ℤ p.amount = omega (arith, ints) in
    let posts = simp (to_z-of_z, negated) at c.post.ensures.posts in
    record {
      undoes = undone_more f (g.L.Accounts.model c.args.ledger.now) (g.L.Accounts.model c.loop-place.ledger) (g.L.Accounts.model c.post.new.self) c.loop-place.place c.args.places p c.loop-place-test.true c.in-Some.ensures c.loop-place.invariant.undoes posts;
      kept = g.L.Ledger.onward _ _ _ c.loop-place.invariant.kept c.post.ensures.keeps;
    }
