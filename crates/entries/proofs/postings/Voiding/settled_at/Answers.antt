use Rattle.std.proofs.Common.{sym, ◌∙◌, ap₂, arith}
use Rattle.entries.specs.Amounts.{conditions, posting_of}
use Rattle.entries.proofs.Returning.{slot_is}
use Rattle.entries.proofs.postings.Voiding.settled_at.Goals as goal

pub returns-then-place-entries-clause-is : goal.returns-then-place-entries-clause-is
returns-then-place-entries-clause-is c =
    c.posting_of.ensures.is
    ∙ ap₂ (posting_of (conditions c.args.self.now.undo.delivery.terms)) c.party_at.ensures c.number_at-number.ensures
    ∙ sym (slot_is _ _ _ _ _ _ c.args.place (omega arith))
