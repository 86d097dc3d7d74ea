use Rattle.std.proofs.Common.{◌≡◌, ◌<◌, Err, sym, ap, ◌∙◌, subst, arith}
use Rattle.posting.specs.Postings.{one, listed, posted_all, AllTaken, answers, left}
use Rattle.posting.proofs.Order.{more_posted, more_taken, stopped, restored, smalls, answers_all, left_ok, unmoved_left, summed_left}
use Rattle.posting.proofs.post_all.Goals as goal

pub take_back-requires : goal.take_back-requires
take_back-requires g c =
    smalls (g.S.Source.slot c.args.source.now) (g.L.Accounts.model c.args.ledger.now) c.loop-place.place (g.L.Accounts.lawful c.args.ledger.now) c.loop-place.invariant.taken

pub returns-in-Err : goal.returns-in-Err
returns-in-Err g c =
    let m = g.L.Accounts.model c.args.ledger.now in
    let f = g.S.Source.slot c.args.source.now in
    let n = g.S.Source.many c.args.source.now in
    let l = g.L.Accounts.model c.loop-place.ledger in
    let l' = g.L.Accounts.model c.post_at.new.ledger in
    let l'' = g.L.Accounts.model c.take_back.new.ledger in
    let i = c.loop-place.place in
    let e = c.in-Err.refused in
    let lt : i < n = omega (arith, c.places-place-end.ensures) in
    let h : answers l (one (f i)) ≡ Err e = sym c.in-Err.ensures.answers in
    let a : Err e ≡ answers m (listed f n) = sym (stopped f m l i c.loop-place.invariant.posted c.loop-place.invariant.taken n e lt h) in
    let p : l'' ≡ left m (listed f n) = restored f m l i c.loop-place.invariant.posted c.loop-place.invariant.taken n e lt (g.L.Accounts.lawful c.args.ledger.now) h l' l'' c.post_at.ensures.posts c.take_back.ensures.posts in
    record {
      answers = a;
      posts = p;
      keeps = g.L.Ledger.onward _ _ _ c.loop-place.invariant.kept (g.L.Ledger.onward _ _ _ c.post_at.ensures.keeps c.take_back.ensures.keeps);
      unmoved = unmoved_left (Err e) m l'' (listed f n) a p;
      sums = summed_left (Err e) m l'' (listed f n) a p;
    }

pub loop-place-preserved : goal.loop-place-preserved
loop-place-preserved g c =
    let m = g.L.Accounts.model c.args.ledger.now in
    let f = g.S.Source.slot c.args.source.now in
    let l = g.L.Accounts.model c.loop-place.ledger in
    let i = c.loop-place.place in
    let h = sym c.in_default.ensures.answers in
    record {
      posted = more_posted f m l i c.loop-place.invariant.posted c.loop-place.invariant.taken (g.L.Accounts.model c.post_at.new.ledger) h c.post_at.ensures.posts;
      taken = more_taken f m l i c.loop-place.invariant.posted c.loop-place.invariant.taken h;
      kept = g.L.Ledger.onward _ _ _ c.loop-place.invariant.kept c.post_at.ensures.keeps;
    }

pub returns : goal.returns
returns g c =
    let m = g.L.Accounts.model c.args.ledger.now in
    let f = g.S.Source.slot c.args.source.now in
    let n = g.S.Source.many c.args.source.now in
    let l = g.L.Accounts.model c.loop-place.ledger in
    let whole : c.loop-place.place ≡ n = omega (arith, c.places-place-end.ensures) in
    let a : answers m (listed f n) ≡ _ = answers_all m (listed f n) (subst (λ k. AllTaken m (listed f k)) whole c.loop-place.invariant.taken) in
    let p : l ≡ left m (listed f n) = c.loop-place.invariant.posted ∙ ap (λ k. posted_all m (listed f k)) whole ∙ sym (left_ok m (listed f n) a) in
    record {
      answers = sym a;
      posts = p;
      keeps = c.loop-place.invariant.kept;
      unmoved = tt;
      sums = summed_left _ m l (listed f n) (sym a) p;
    }
