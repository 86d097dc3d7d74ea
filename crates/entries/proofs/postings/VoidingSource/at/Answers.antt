use Rattle.std.proofs.Common.{◌≡◌, suc, ◌+◌, ◌-◌, length, sym, ap, ◌∙◌, arith}
use Rattle.std.specs.Option.{option_map}
use Rattle.entries.specs.Amounts.{opposite}
use Rattle.entries.specs.Voids.{reversal_of, settled_slot}
use Rattle.entries.proofs.Voids.{mapped, void_at}
use Rattle.entries.proofs.postings.VoidingSource.at.Goals as goal

pub returns : goal.returns
returns c =
    let v = c.args.self.now in
    let book = v.undo.delivery.book in
    let settled = settled_slot (reversal_of v.undo) v.sheet.now in
    let place : c.saturating_sub-settled.result ≡ suc (length book.orders.now + length book.blocks.now) - c.args.place = omega arith in
    mapped _ _ c.map.ensures.cases
    ∙ ap (option_map opposite) (c.settled_at.ensures.is ∙ ap settled place)
    ∙ sym (void_at settled _ _ c.args.place c.if-place-eq0.false)
