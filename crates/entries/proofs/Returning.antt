-- The numbers of an interval, read from the sheet.
use Rattle.std.proofs.Common.{◌≡◌, ℕ, zero, suc, ◌+◌, ◌-◌, ◌<◌, ◌≤◌, true, false, cond, List, [], ◌∷◌, map, length, get_or, ℤ, pos, sym, refl, ap, ◌∙◌, ⊎_elim, arith}
use Rattle.std.specs.List.{range_with_len}
use Rattle.std.proofs.lemmas.Bool.{lt-ltb, le-ltb, cases_lt}
use Rattle.std.proofs.lemmas.List.{ext_get_or, get_or_append_left, get_or-append_right}
use Rattle.std.proofs.lemmas.List.FromFn.{length-map-range_with_len, get_or-map-range_with_len}
use Rattle.ledger.proofs.Posting.{by_test}
use Rattle.market.specs.declared.records.Order.{Order}
use Rattle.market.specs.declared.records.Block.{Block}
use Rattle.market.specs.Blank.{no_order, no_block}
use Rattle.market.specs.Kinds.{Kind, orders, blocks}
use Rattle.market.proofs.Facts.{same_true}
use Rattle.cuts.specs.Numbers.{rounded_numbers}
use Rattle.cuts.specs.Settled.{settled_orders, settled_blocks, settled_numbers}
use Rattle.cuts.proofs.Cutting.{length_settled_orders, length_settled}
use Rattle.cuts.proofs.Remainders.{settles}
use Rattle.entries.specs.Amounts.{Conditions, party_at, posting_of, settle_slot}
use Rattle.entries.specs.Sheet.{of_interval, place_of, written, sheet_with, sheet_without, sheet_number, sheet_numbers, Laid}
use Rattle.entries.proofs.Reading.{apart, read_elsewhere, reads_back}

-- ---- the numbers by entry

module _ (os : List Order) (bs : List Block) (n i : ℕ) (s : List ℕ) where
  -- there is one for each entry
  pub length_numbers : length (sheet_numbers os bs n i s) ≡ length os + length bs
  unfolding sheet_numbers
  length_numbers = length-map-range_with_len (sheet_number os bs n i s) 0 (length os + length bs)

  -- and at its place stands the entry's own
  pub number_is : (k : ℕ) → k < length os + length bs → get_or (sheet_numbers os bs n i s) k 0 ≡ sheet_number os bs n i s k
  unfolding sheet_numbers
  number_is k h = get_or-map-range_with_len (sheet_number os bs n i s) 0 (length os + length bs) k k 0 h (omega arith)

  -- by which settling posted for it
  pub slot_is : (t : Conditions) (k : ℕ) → k < length os + length bs → settle_slot os bs (sheet_numbers os bs n i s) t k ≡ posting_of t (party_at os bs k) (sheet_number os bs n i s k)
  slot_is t k h = rw (lt-ltb k (length os + length bs) h, number_is k h)

-- ---- an entry that is not of the interval is settled at 0

-- its rounded number is 0
none_rounded : {X : Type 0} (kind : Kind X) (d : X) (i : ℕ) (xs : List X) (fs : List ℕ) (k : ℕ) → k < length xs → kind.covers (get_or xs k d) i ≡ false → get_or (rounded_numbers kind i xs fs) k 0 ≡ 0
none_rounded kind d i [] fs k h e = refl
none_rounded kind d i (x ∷ xs) [] k h e = refl
none_rounded kind d i (x ∷ xs) (f ∷ fs) zero h e = rw e
none_rounded kind d i (x ∷ xs) (f ∷ fs) (suc k) h e = none_rounded kind d i xs fs k (omega arith) e

module _ (os : List Order) (fs : List ℕ) (bs : List Block) (gs : List ℕ) (i : ℕ) (r : ℤ) (all_orders : length fs ≡ length os) (all_blocks : length gs ≡ length bs) where
  -- and so is what is settled of an order, which is no more
  none_order : (k : ℕ) → k < length os → of_interval os bs i k ≡ false → get_or (settled_numbers os fs bs gs i r) k 0 ≡ 0
  unfolding settled_numbers
  none_order k h e =
      let long = length_settled_orders os fs bs gs i r all_orders in
      let read = get_or_append_left (settled_orders os fs bs gs i r) (settled_blocks os fs bs gs i r) 0 k (omega arith) in
      let most = (settles os fs bs gs i r).orders_right.fewer k in
      let none = none_rounded orders no_order i os fs k h (rw (lt-ltb k (length os) h) at e) in
      omega arith

  -- and of a block
  none_block : (k : ℕ) → length os ≤ k → k < length os + length bs → of_interval os bs i k ≡ false → get_or (settled_numbers os fs bs gs i r) k 0 ≡ 0
  unfolding settled_numbers
  none_block k past h e =
      let long = length_settled_orders os fs bs gs i r all_orders in
      let read = get_or-append_right (settled_orders os fs bs gs i r) (settled_blocks os fs bs gs i r) (length os) k 0 long past in
      let most = (settles os fs bs gs i r).blocks_right.fewer (k - length os) in
      let none = none_rounded blocks no_block i bs gs (k - length os) (omega arith) (rw (le-ltb k (length os) past) at e) in
      omega arith

  -- and of any entry
  none_settled : (k : ℕ) → k < length os + length bs → of_interval os bs i k ≡ false → get_or (settled_numbers os fs bs gs i r) k 0 ≡ 0
  none_settled k h e = ⊎_elim (λ lt. none_order k lt e) (λ past. none_block k past h e) (cases_lt k (length os))

-- ---- what was settled reads back

-- an entry of the interval has its place, and any other is settled at 0
pub settled_back : (os : List Order) (fs : List ℕ) (bs : List Block) (gs : List ℕ) (n i : ℕ) (r : ℤ) (s : List ℕ)
    → length fs ≡ length os → length gs ≡ length bs → Laid (length os) (length bs) n i (length s)
    → sheet_numbers os bs n i (sheet_with os bs n i (settled_numbers os fs bs gs i r) s) ≡ settled_numbers os fs bs gs i r
settled_back os fs bs gs n i r s e f laid =
    let ns = settled_numbers os fs bs gs i r in
    let w = sheet_with os bs n i ns s in
    let reads = reads_back os bs n i ns s laid in
    let long = length_numbers os bs n i w in
    let each : (k : ℕ) → k < length os + length bs → sheet_number os bs n i w k ≡ get_or ns k 0 = λ k lt.
    by_test (of_interval os bs i k) (λ b. cond b (get_or w (place_of (length os) n i k) 0) 0 ≡ get_or ns k 0)
    (λ t. reads.here k lt t)
    (λ g. sym (none_settled os fs bs gs i r e f k lt g)) in
    ext_get_or 0 (sheet_numbers os bs n i w) ns (long ∙ sym (length_settled os fs bs gs i r e f))
    (λ k lt. let h : k < length os + length bs = omega arith in number_is os bs n i w k h ∙ each k h)

-- ---- and the other intervals are as they were

-- an order is of one interval
one_interval : (o : Order) (i j : ℕ) → orders.covers o i ≡ true → orders.covers o j ≡ true → i ≡ j
one_interval o i j p q =
    let a = same_true o.interval (pos i) p in
    let b = same_true o.interval (pos j) q in
    let e : pos i ≡ pos j = sym a ∙ b in
    cc

module _ (os : List Order) (bs : List Block) (n i j : ℕ) (s : List ℕ) (laid : Laid (length os) (length bs) n i (length s)) (from : 1 ≤ j) (to : j ≤ n) (other : i ≡ j → ⊥) where
  -- two intervals have no place in common: an order is of one, and a block has a place for each
  never_both : (k l : ℕ) → of_interval os bs i k ≡ true → of_interval os bs j l ≡ true → place_of (length os) n i k ≡ place_of (length os) n j l → ⊥
  never_both k l p q e =
      let both = apart (length os) n i j k l laid.from laid.to from to e in
      ⊎_elim
      (λ lt. other (one_interval (get_or os k no_order) i j (rw (lt-ltb k (length os) lt) at p) (rw (lt-ltb k (length os) lt) at (ap (of_interval os bs j) both.0 ∙ q))))
      (λ past. other (both.1 past))
      (cases_lt k (length os))

  -- whatever is written at the places of one, the other reads as before
  others_read : (v : ℕ → ℕ) → sheet_numbers os bs n j (written (place_of (length os) n i) (of_interval os bs i) v (length os + length bs) s) ≡ sheet_numbers os bs n j s
  unfolding sheet_numbers
  others_read v =
      let o = length os in
      let m = o + length bs in
      let w = written (place_of o n i) (of_interval os bs i) v m s in
      let each : (k : ℕ) → sheet_number os bs n j w k ≡ sheet_number os bs n j s k = λ k.
      by_test (of_interval os bs j k) (λ b. of_interval os bs j k ≡ b → cond b (get_or w (place_of o n j k) 0) 0 ≡ cond b (get_or s (place_of o n j k) 0) 0)
      (λ _ t. read_elsewhere (place_of o n i) (of_interval os bs i) v s m (place_of o n j k) (λ l lt p e. never_both l k p t e))
      (λ _ _. refl)
      refl in
      λ t. map (λ k. each k t) (range_with_len 0 m)

  -- as where its numbers are written
  pub others_kept : (ns : List ℕ) → sheet_numbers os bs n j (sheet_with os bs n i ns s) ≡ sheet_numbers os bs n j s
  unfolding sheet_with
  others_kept ns = others_read (λ k. get_or ns k 0)

  -- or zeroed
  pub others_zeroed : sheet_numbers os bs n j (sheet_without os bs n i s) ≡ sheet_numbers os bs n j s
  unfolding sheet_without
  others_zeroed = others_read (λ k. 0)
