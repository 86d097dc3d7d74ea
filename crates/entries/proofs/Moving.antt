-- By what settling moves the sum of all balances.
use Rattle.std.proofs.Common.{◌≡◌, ℕ, List, length, ℤ, ◌+ℤ◌, Ok, Err, Result, sym, refl, ap, ◌∙◌, subst}
use Rattle.cuts.specs.Settled.{settled_orders, settled_blocks, settled_numbers, remainder_of}
use Rattle.cuts.proofs.Cutting.{length_settled_orders, length_settled_blocks}
use Rattle.ledger.specs.declared.account.Account.{Account}
use Rattle.ledger.specs.declared.refusal.PostRefused.{PostRefused}
use Rattle.ledger.specs.Model.{total, if_taken}
use Rattle.posting.specs.Postings.{answers, left, posted_all}
use Rattle.posting.proofs.Order.{all_taken, total_all}
use Rattle.entries.specs.declared.refused.SettleRefused.{SettleRefused}
use Rattle.entries.specs.Amounts.{Conditions, worth}
use Rattle.entries.specs.Settles.{Settlement, settle_numbers, settle_list, settle_steps, settle_sheet, if_posted, carried_answer, carried_sheet, Lengths, Ready, Moved}
use Rattle.entries.proofs.Adding.{amounts_are}

-- postings that are all taken move the sum by the worth of the remainder
pub sum_moved : (x : Settlement) → length x.order_fills ≡ length x.orders → length x.block_fills ≡ length x.blocks → (m : List Account) → answers m (settle_list x) ≡ Ok tt → total (posted_all m (settle_list x)) ≡ total m +ℤ worth x.by (settle_steps x)
unfolding settle_numbers settle_list settle_steps settled_numbers remainder_of
sum_moved x e f m h =
    let os = x.orders in
    let fs = x.order_fills in
    let bs = x.blocks in
    let gs = x.block_fills in
    let i = x.interval in
    let t = x.by in
    total_all m (settle_list x) (all_taken m (settle_list x) h)
    ∙ ap (λ z. total m +ℤ z)
    (amounts_are os bs (settled_orders os fs bs gs i t.rounded) (settled_blocks os fs bs gs i t.rounded) t
    (length_settled_orders os fs bs gs i t.rounded e) (length_settled_blocks os fs bs gs i t.rounded f))

-- what the answer says of accounts and sheet
moved_by : (a : Result (Unit {0}) PostRefused) (t : Conditions) (z : ℤ) (r : Result ℤ SettleRefused) (m m' new : List Account) (s s' w : List ℕ)
    → r ≡ if_posted a z → m' ≡ if_taken a new m → s' ≡ if_taken a w s → (a ≡ Ok tt → total new ≡ total m +ℤ worth t z) → Moved r t m m' s s'
moved_by (Err e) t z r m m' new s s' w er em es h = subst (λ x. Moved x t m m' s s') (sym er) (em, es)
moved_by (Ok v) t z r m m' new s s' w er em es h = subst (λ x. Moved x t m m' s s') (sym er) (ap total em ∙ h refl)

-- where the checks have passed
pub moved : (x : Settlement) (l : Lengths) → Ready x l → (r : Result ℤ SettleRefused) (m m' : List Account) (s s' : List ℕ)
    → r ≡ carried_answer x m → m' ≡ left m (settle_list x) → s' ≡ carried_sheet x m s → Moved r x.by m m' s s'
moved x l ready r m m' s s' er em es =
    moved_by (answers m (settle_list x)) x.by (settle_steps x) r m m' (posted_all m (settle_list x)) s s' (settle_sheet x s) er em es
    (sum_moved x ready.sized.order_fills ready.sized.block_fills m)
