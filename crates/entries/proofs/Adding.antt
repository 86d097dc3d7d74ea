-- What the amounts of an interval's postings add up to.
use Rattle.std.proofs.Common.{◌≡◌, ℕ, zero, suc, ◌+◌, ◌-◌, ◌<◌, cond, eqb, List, [], ◌∷◌, ◌++◌, length, get_or, ℤ, pos, ◌+ℤ◌, neg_ℤ, Some, None, sym, refl, ap, ◌∙◌, ap₂, arith}
use Rattle.std.proofs.Math.IntN.{*ℤ-zero, zero-*ℤ}
use Rattle.std.proofs.lemmas.List.{get_or_append_left, get_or-append_right}
use Rattle.std.proofs.lemmas.Int.{ints}
use Rattle.std.proofs.lemmas.Bool.{lt-ltb, le-ltb, eqb-true}
use Rattle.ledger.proofs.Posting.{by_test}
use Rattle.market.specs.declared.records.Side.{Side}
use Rattle.market.specs.declared.records.Side.TheVariants.{Sell, Buy}
use Rattle.market.specs.declared.records.Order.{Order}
use Rattle.market.specs.declared.records.Block.{Block}
use Rattle.market.specs.Blank.{no_order, no_block}
use Rattle.verdict.proofs.Ring.{add-mul, mul-add, neg-mul, mul-neg}
use Rattle.market.specs.Kinds.{orders, blocks}
use Rattle.market.specs.Signed.{signed}
use Rattle.cuts.specs.Numbers.{net}
use Rattle.cuts.specs.Settled.{balance}
use Rattle.posting.specs.Postings.{one, amounts}
use Rattle.entries.specs.declared.book.Party.{Party}
use Rattle.entries.specs.Amounts.{Conditions, worth, party_at, party, posting_of, exchange, settle_slot, settle_postings}
use Rattle.entries.proofs.Sums.{upto, upto_same, upto_split, amounts_upto, net_upto}

pub worth-add : (t : Conditions) (a b : ℤ) → worth t (a +ℤ b) ≡ worth t a +ℤ worth t b
worth-add t a b = simp (mul-add, add-mul)

pub worth-neg : (t : Conditions) (a : ℤ) → worth t (neg_ℤ a) ≡ neg_ℤ (worth t a)
worth-neg t a = simp (mul-neg, neg-mul)

worth_nil : (t : Conditions) → worth t (pos 0) ≡ pos 0
worth_nil t = simp (*ℤ-zero, zero-*ℤ)

signed_nil : (s : Side) → signed s 0 ≡ pos 0
signed_nil Sell = refl
signed_nil Buy = refl

worth_upto : (t : Conditions) (f : ℕ → ℤ) (n : ℕ) → upto (λ k. worth t (f k)) n ≡ worth t (upto f n)
worth_upto t f zero = sym (worth_nil t)
worth_upto t f (suc n) = ap (λ z. z +ℤ worth t (f n)) (worth_upto t f n) ∙ sym (worth-add t (upto f n) (f n))

-- the amount of an entry, also of one that is not posted
entry-amount : (t : Conditions) (p : Party) (n : ℕ) → amounts (one (posting_of t p n)) ≡ worth t (signed p.side n)
entry-amount t p n =
    by_test (eqb n 0) (λ b. amounts (one (cond b None (Some (record { account = p.account; amount = worth t (signed p.side n) })))) ≡ worth t (signed p.side n))
    (λ e. let z : n ≡ 0 = eqb-true n 0 e in sym (ap (λ k. worth t (signed p.side k)) z ∙ ap (worth t) (signed_nil p.side) ∙ worth_nil t))
    (λ _. omega (arith, ints))

module _ (os : List Order) (bs : List Block) (ns ms : List ℕ) (t : Conditions) (all_orders : length ns ≡ length os) (all_blocks : length ms ≡ length bs) where
  abbrev amount_at : ℕ → ℤ
  amount_at k = amounts (one (settle_slot os bs (ns ++ ms) t k))

  entry_at : (k : ℕ) → k < length os + length bs → amount_at k ≡ worth t (signed (party_at os bs k).side (get_or (ns ++ ms) k 0))
  entry_at k h =
      ap (λ b. amounts (one (cond b (posting_of t (party_at os bs k) (get_or (ns ++ ms) k 0)) (Some (exchange t))))) (lt-ltb k (length os + length bs) h)
      ∙ entry-amount t (party_at os bs k) (get_or (ns ++ ms) k 0)

  order_at : (k : ℕ) → k < length os → amount_at k ≡ worth t (signed (orders.side (get_or os k no_order)) (get_or ns k 0))
  order_at k h =
      entry_at k (omega arith)
      ∙ ap₂ (λ (p : Party) (n : ℕ). worth t (signed p.side n))
      (ap (λ b. cond b (party orders (get_or os k no_order)) (party blocks (get_or bs (k - length os) no_block))) (lt-ltb k (length os) h))
      (get_or_append_left ns ms 0 k (omega arith))

  block_at : (k : ℕ) → k < length bs → amount_at (length os + k) ≡ worth t (signed (blocks.side (get_or bs k no_block)) (get_or ms k 0))
  block_at k h =
      let back : (length os + k) - length os ≡ k = omega arith in
      entry_at (length os + k) (omega arith)
      ∙ ap₂ (λ (p : Party) (n : ℕ). worth t (signed p.side n))
      (ap (λ b. cond b (party orders (get_or os (length os + k) no_order)) (party blocks (get_or bs ((length os + k) - length os) no_block))) (le-ltb (length os + k) (length os) (omega arith))
      ∙ ap (λ j. party blocks (get_or bs j no_block)) back)
      (get_or-append_right ns ms (length os) (length os + k) 0 all_orders (omega arith) ∙ ap (λ j. get_or ms j 0) back)

  exchange_at : amount_at (length os + length bs) ≡ worth t (neg_ℤ t.rounded)
  exchange_at =
      let one-amount : amounts (exchange t ∷ []) ≡ neg_ℤ (worth t t.rounded) = omega (arith, ints) in
      ap (λ b. amounts (one (cond b (posting_of t (party_at os bs (length os + length bs)) (get_or (ns ++ ms) (length os + length bs) 0)) (Some (exchange t))))) (le-ltb (length os + length bs) (length os + length bs) (omega arith))
      ∙ one-amount ∙ sym (worth-neg t t.rounded)

  orders_upto : upto amount_at (length os) ≡ worth t (net orders os ns)
  orders_upto =
      upto_same amount_at (λ k. worth t (signed (orders.side (get_or os k no_order)) (get_or ns k 0))) (length os) order_at
      ∙ worth_upto t (λ k. signed (orders.side (get_or os k no_order)) (get_or ns k 0)) (length os)
      ∙ ap (worth t) (sym (net_upto orders no_order os ns all_orders))

  blocks_upto : upto (λ k. amount_at (length os + k)) (length bs) ≡ worth t (net blocks bs ms)
  blocks_upto =
      upto_same (λ k. amount_at (length os + k)) (λ k. worth t (signed (blocks.side (get_or bs k no_block)) (get_or ms k 0))) (length bs) block_at
      ∙ worth_upto t (λ k. signed (blocks.side (get_or bs k no_block)) (get_or ms k 0)) (length bs)
      ∙ ap (worth t) (sym (net_upto blocks no_block bs ms all_blocks))

  -- the amounts add up to the worth of sells less buys less R
  pub amounts_are : amounts (settle_postings os bs (ns ++ ms) t) ≡ worth t (balance os bs ns ms t.rounded)
  unfolding settle_postings
  amounts_are =
      amounts_upto (settle_slot os bs (ns ++ ms) t) (suc (length os + length bs))
      ∙ ap₂ (λ a b. a +ℤ b) (upto_split amount_at (length os) (length bs) ∙ ap₂ (λ a b. a +ℤ b) orders_upto blocks_upto) exchange_at
      ∙ ap (λ z. z +ℤ worth t (neg_ℤ t.rounded)) (sym (worth-add t (net orders os ns) (net blocks bs ms)))
      ∙ sym (worth-add t (net orders os ns +ℤ net blocks bs ms) (neg_ℤ t.rounded))
