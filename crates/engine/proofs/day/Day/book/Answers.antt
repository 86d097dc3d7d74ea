use Rattle.std.proofs.Common.{◌≡◌, true, ℤ, Ok, Err, sym, refl, ap, ◌∙◌, arith, w32, w64, SFits, to_z, of_z, rules}
use borrow.Author.Differences.{ints}
use Rattle.std.proofs.lemmas.Int.{to_z-of_z}
use Rattle.ledger.specs.Model.{answer, after, total}
use Rattle.ledger.proofs.Posting.{after_taken, after_refused, total-posted}
use Rattle.engine.specs.Marks.{shows_out}
use Rattle.engine.specs.Booking.{booked}
use Rattle.engine.proofs.day.Day.book.Goals as goal

pub returns-in-Err-clause-step : goal.returns-in-Err-clause-step
returns-in-Err-clause-step g c =
    let d = c.args.self.now in
    let t = c.args.remainder in
    let m = g.L.Accounts.model c.args.ledger.now in
    let x : ℤ = c.booked.result in
    let w : SFits w64 x = search rules in
    let owed = (booked d t.interval t.steps).amount in
    let amount : to_z w64 (of_z w64 x) ≡ owed = to_z-of_z w64 x w ∙ c.booked.ensures in
    let shows : shows_out d t.interval t.steps ≡ true = sym c.shows_out.ensures ∙ c.if-not-shows_out.false in
    let no : answer m 1 owed ≡ Err c.in-Err.refused = ap (answer m 1) (sym amount) ∙ sym c.in-Err.ensures.answers in
    λ p l s. (
      rw (shows, no, c.into.ensures) refl,
      record { day = refl; sheet = refl; ledger = c.post.ensures.posts ∙ ap (after m 1) amount ∙ after_refused m 1 owed c.in-Err.refused no },
    )

pub returns-in-Err-clause-moves : goal.returns-in-Err-clause-moves
returns-in-Err-clause-moves g c =
    let d = c.args.self.now in
    let t = c.args.remainder in
    let m = g.L.Accounts.model c.args.ledger.now in
    let x : ℤ = c.booked.result in
    let w : SFits w64 x = search rules in
    let owed = (booked d t.interval t.steps).amount in
    let amount : to_z w64 (of_z w64 x) ≡ owed = to_z-of_z w64 x w ∙ c.booked.ensures in
    let no : answer m 1 owed ≡ Err c.in-Err.refused = ap (answer m 1) (sym amount) ∙ sym c.in-Err.ensures.answers in
    ap total (c.post.ensures.posts ∙ ap (after m 1) amount ∙ after_refused m 1 owed c.in-Err.refused no)

pub returns-clause-step : goal.returns-clause-step
returns-clause-step g c =
    let d = c.args.self.now in
    let t = c.args.remainder in
    let m = g.L.Accounts.model c.args.ledger.now in
    let i : to_z w32 (of_z w32 t.interval) ≡ t.interval = omega (arith, ints) in
    let x : ℤ = c.booked.result in
    let w : SFits w64 x = search rules in
    let owed = (booked d t.interval t.steps).amount in
    let amount : to_z w64 (of_z w64 x) ≡ owed = to_z-of_z w64 x w ∙ c.booked.ensures in
    let shows : shows_out d t.interval t.steps ≡ true = sym c.shows_out.ensures ∙ c.if-not-shows_out.false in
    let took : answer m 1 owed ≡ Ok tt = ap (answer m 1) (sym amount) ∙ sym c.in_default.ensures.answers in
    λ p l s. (
      rw (shows, took) refl,
      record { day = rw i at c.put_mark.ensures; sheet = refl; ledger = c.post.ensures.posts ∙ ap (after m 1) amount ∙ after_taken m 1 owed took },
    )

pub returns-clause-moves : goal.returns-clause-moves
returns-clause-moves g c =
    let d = c.args.self.now in
    let t = c.args.remainder in
    let m = g.L.Accounts.model c.args.ledger.now in
    let x : ℤ = c.booked.result in
    let w : SFits w64 x = search rules in
    let owed = (booked d t.interval t.steps).amount in
    let amount : to_z w64 (of_z w64 x) ≡ owed = to_z-of_z w64 x w ∙ c.booked.ensures in
    let took : answer m 1 owed ≡ Ok tt = ap (answer m 1) (sym amount) ∙ sym c.in_default.ensures.answers in
    ap total (c.post.ensures.posts ∙ ap (after m 1) amount ∙ after_taken m 1 owed took) ∙ total-posted m 1 owed took
