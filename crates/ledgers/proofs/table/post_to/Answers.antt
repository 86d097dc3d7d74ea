use Rattle.std.proofs.Common.{◌≡◌, ◌<◌, length, get_or, set, Err, sym, refl, ap, ◌∙◌, subst, arith, w64, SFits, rules}
use Rattle.std.proofs.lemmas.Int.{to_z-of_z}
use Rattle.std.proofs.lemmas.Option.{MatchOption-at_some, MatchOption-at_none}
use Rattle.ledger.specs.declared.refusal.PostRefused.TheVariants.{NotOpen, OutOfBounds}
use Rattle.ledger.specs.Model.{blank}
use Rattle.ledger.proofs.Posting.{after_refused}
use Rattle.ledgers.specs.Table.{FirstAt, Absent, table_model, TableKept}
use Rattle.ledgers.proofs.Tables.{open_length, raised_is, table_answers, table_posts, table_keeps, table_refuses, table_absent}
use Rattle.ledgers.proofs.table.post_to.Goals.{In_ok-place}
use Rattle.ledgers.proofs.table.post_to.Goals as goal

-- where the account is
at_place : (c : In_ok-place) → FirstAt (table_model c.args.records.now) c.args.account c.in_ok-place.place
at_place c = subst (λ l. FirstAt l c.args.account c.in_ok-place.place) c.open_part.ensures.model (MatchOption-at_some _ _ c.in_ok-place.place c.in_ok-place.ensures.ok_part c.place_of.ensures)

inside : (c : In_ok-place) → c.in_ok-place.place < length c.args.records.now
inside c =
    let h = (at_place c).inside in
    let l = open_length c.args.records.now in
    omega arith

pub slice_copy_out-raised : goal.slice_copy_out-raised
slice_copy_out-raised c = inside c

pub bounds-records-place : goal.bounds-records-place
bounds-records-place c = inside (goal.at.bounds-records-place c).In_ok-place

pub returns-in_err-place : goal.returns-in_err-place
returns-in_err-place c =
    let rs = c.args.records.now in
    let n = c.args.account in
    let x = c.args.amount in
    let none = subst (λ l. Absent l n) c.open_part.ensures.model (MatchOption-at_none _ _ c.in_err-place.ensures.ok_part c.place_of.ensures) in
    let e = table_absent rs n x none in
    let told : c.from_residual.result ≡ Err (NotOpen n) = search rules in
    record { answers = told ∙ sym e; posts = sym (after_refused (table_model rs) n x (NotOpen n) e); keeps = (refl, refl) }

pub returns-in_err-balance : goal.returns-in_err-balance
returns-in_err-balance c =
    let rs = c.args.records.now in
    let i = c.in_ok-place.place in
    let n = c.args.account in
    let x = c.args.amount in
    let f = c.ranges.amount in
    let h = simp to_z-of_z at c.raised.ensures in
    let e = table_refuses rs i n x (at_place (goal.at.returns-in_err-balance c).In_ok-place) (sym h ∙ c.in_err-balance.ensures.ok_part) in
    let told : c.from_residual-in_err-balance.result ≡ Err (OutOfBounds n) = search rules in
    record { answers = told ∙ sym e; posts = sym (after_refused (table_model rs) n x (OutOfBounds n) e); keeps = (refl, refl) }

pub returns : goal.returns
returns c =
    let rs = c.args.records.now in
    let i = c.in_ok-place.place in
    let n = c.args.account in
    let x = c.args.amount in
    let a = get_or rs i blank in
    let b = c.in_ok-balance.balance in
    let at = at_place (goal.at.returns c).In_ok-place in
    let f = c.ranges.amount in
    let h = sym (simp to_z-of_z at c.raised.ensures) ∙ c.in_ok-balance.ensures.ok_part in
    let g : SFits w64 b = search rules in
    let written = ap (λ z. set rs i (record { number = a.number; balance = z; lower = a.lower; upper = a.upper })) (to_z-of_z w64 b g ∙ raised_is a x b h) in
    record {
      answers = sym (table_answers rs i n x at b h);
      posts = ap table_model written ∙ table_posts rs i n x at b h;
      keeps = subst (TableKept rs) (sym written) (table_keeps rs i n x at b h);
    }
