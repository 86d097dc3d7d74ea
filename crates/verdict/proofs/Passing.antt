-- The verdict accepts a paper exactly where everything is in order and every rule holds; else it names the first that is broken.
use Rattle.std.proofs.Common.{◌≡◌, ℕ, zero, suc, ◌+◌, ◌<◌, true, not, ◌||◌, eqb, ◌⊎◌, List, [], ◌∷◌, length, get_or, replicate, ℤ, pos, Ok, Err, Result, sym, refl, ap, ◌∙◌, subst, inl, inr, ⊎_elim, arith}
use Rattle.std.specs.List.{AllByRecursion as Every}
use Rattle.std.proofs.lemmas.List.{length-replicate}
use Rattle.market.specs.declared.records.Order.{Order}
use Rattle.market.specs.declared.records.Block.{Block}
use Rattle.market.specs.declared.records.Interval.{Interval}
use Rattle.market.specs.declared.refusal.Refusal.{Refusal}
use Rattle.market.specs.declared.refusal.Refusal.TheVariants.{Short, OutsideBounds, OverQuantity, ShouldBeEmpty, ShouldBeFull, BelowLeast, BlockPrice, Unbalanced}
use Rattle.market.specs.Blank.{no_order, no_block, fresh}
use Rattle.std.specs.List.{AllZip}
use Rattle.std.specs.Result.{result_and}
use Rattle.verdict.specs.Walks.{first_in, first_filled}
use Rattle.market.specs.Bounds.{same, order_bounds, block_bounds, outside}
use Rattle.market.specs.Bounds.{full}
use Rattle.verdict.specs.Rules.{price_at, misses, beats, within, thousandths, enough, quantity_rule, order_price, block_price}
use Rattle.verdict.specs.Balance.{net_of, interval_balance, welfare}
use Rattle.verdict.specs.Verdict.{lengths_ok, lengths, next, bounds, quantities, prices, balances, verdict_of}
use Rattle.verdict.specs.Passes.{LawfulOrder, LawfulBlock, LawfulBook, Fits, WithinQuantity, OrderMeetsPrice, BlockMeets, WithinBook, BalancedAt, Balanced, Passes}
use Rattle.verdict.specs.Broken.{OrderAt, BlockAt, Broken, order_outside, block_outside, order_over, block_over, order_not_empty, order_not_full, block_below_least, block_not_paid, unbalanced, FirstBroken, InOrder, Judged}
use Rattle.verdict.proofs.Eachs.{each_all, all_each}
use Rattle.market.proofs.Facts.{tests_out, tests_back, same_yes, same_true}
use Rattle.verdict.proofs.Firsts.{then_ok, then_both, in_filled, each_out, each_back}
use Rattle.verdict.proofs.Judging.{fits_from, fits_test, fits_back, outside_out}
use Rattle.verdict.proofs.Keeping.{is_le, le_is, order_out, order_back, block_out, block_back, empty_out, empty_back, full_back, least_out, least_back, paid, price_back, one_err, two_err, fails, order_price_out, order_price_back, block_price_out, block_price_back}
use Rattle.verdict.proofs.Lowests.{never, Lowest, lowest, lowest_in}

-- ---- one check: what it says where it refuses

outside_back : (k : ℕ) (r : Result Unit Refusal) → r ≡ Ok tt → outside k r ≡ Ok tt
outside_back k r e = ap (outside k) e

outside_err : {P : Type 0} (k : ℕ) (r : Result Unit Refusal) (e : Refusal) → (P → r ≡ Ok tt) → outside k r ≡ Err e → (P → ⊥) × (e ≡ OutsideBounds k)
outside_err k (Ok u) e back p = absurd (never tt e p)
outside_err k (Err d) e back p = ((λ h. never tt d (sym (back h))), cc)

quantity_out : (q : ℤ) (f k : ℕ) → quantity_rule q f k ≡ Ok tt → WithinQuantity q f
quantity_out q f k e = le_is (pos f) (thousandths q) (tests_out ((within q f, OverQuantity k) ∷ []) e).0

quantity_back : (q : ℤ) (f k : ℕ) → WithinQuantity q f → quantity_rule q f k ≡ Ok tt
quantity_back q f k h = tests_back ((within q f, OverQuantity k) ∷ []) (is_le (pos f) (thousandths q) h, tt)

quantity_err : (q : ℤ) (f k : ℕ) (e : Refusal) → quantity_rule q f k ≡ Err e → (WithinQuantity q f → ⊥) × (e ≡ OverQuantity k)
quantity_err q f k e p = let t = one_err (within q f) (OverQuantity k) e p in (fails (within q f) t.0 (is_le (pos f) (thousandths q)), t.1)

-- ---- the phases, both ways
module _ {X : Type 0} (entry : X → Result Unit Refusal) (Lawful : X → Type 0) where
  lawful_out : ((x : X) → entry x ≡ Ok tt → Lawful x) → (xs : List X) (fs : List ℕ) (k : ℕ) → length xs ≡ length fs → first_in (λ x n. outside n (entry x)) xs k ≡ Ok tt → Every Lawful xs
  lawful_out out xs fs k s e =
      all_each Lawful xs fs (each_out (λ x f n. outside n (entry x)) (λ x f. Lawful x) (λ x f j h. out x (outside_out j (entry x) h)) xs fs k s (in_filled (λ x n. outside n (entry x)) xs fs k s ∙ e))

  lawful_back : ((x : X) → Lawful x → entry x ≡ Ok tt) → (xs : List X) (fs : List ℕ) (k : ℕ) → length xs ≡ length fs → Every Lawful xs → first_in (λ x n. outside n (entry x)) xs k ≡ Ok tt
  lawful_back back xs fs k s a =
      sym (in_filled (λ x n. outside n (entry x)) xs fs k s)
      ∙ each_back (λ x f n. outside n (entry x)) (λ x f. Lawful x) (λ x f j h. outside_back j (entry x) (back x h)) xs fs k (each_all Lawful xs fs s a)

balance_out : (check : Interval → ℕ → Result Unit Refusal) (xs : List Interval) (k : ℕ) → first_in check xs k ≡ Ok tt → (i : ℕ) → i < length xs → check (get_or xs i fresh) (k + i) ≡ Ok tt
balance_out check [] k e i h = absurd (omega arith)
balance_out check (x ∷ xs) k e zero h = ap (check x) (omega arith) ∙ (then_ok (check x k) (first_in check xs (k + 1)) tt e).0
balance_out check (x ∷ xs) k e (suc i) h = ap (check (get_or xs i fresh)) (omega arith) ∙ balance_out check xs (k + 1) (then_ok (check x k) (first_in check xs (k + 1)) tt e).1 i (omega arith)

balance_back : (check : Interval → ℕ → Result Unit Refusal) (xs : List Interval) (k : ℕ) → ((i : ℕ) → i < length xs → (j : ℕ) → j ≡ k + i → check (get_or xs i fresh) j ≡ Ok tt) → first_in check xs k ≡ Ok tt
balance_back check [] k h = refl
balance_back check (x ∷ xs) k h =
    then_both (check x k) _ _ (h 0 (omega arith) k (omega arith)) (balance_back check xs (k + 1) (λ i l j e. h (suc i) (omega arith) j (omega arith)))

module _ (day : List Interval) (os : List Order) (fs : List ℕ) (bs : List Block) (gs : List ℕ) where
  abbrev n : ℕ
  n = length day

  book_out : Fits day os fs bs gs → bounds n os bs ≡ Ok tt → LawfulBook n os bs
  book_out z e =
      let p = then_ok (first_in (λ o k. outside k (order_bounds n o)) os 1) (first_in (λ b k. outside k (block_bounds n b)) bs (next os)) tt e in
      record { orders = lawful_out (order_bounds n) (LawfulOrder n) (order_out n) os fs 1 z.sized.orders p.0; blocks = lawful_out (block_bounds n) (LawfulBlock n) (block_out n) bs gs (next os) z.sized.blocks p.1 }

  book_back : Fits day os fs bs gs → LawfulBook n os bs → bounds n os bs ≡ Ok tt
  book_back z l =
      then_both (first_in (λ o k. outside k (order_bounds n o)) os 1) _ _
      (lawful_back (order_bounds n) (LawfulOrder n) (order_back n) os fs 1 z.sized.orders l.orders)
      (lawful_back (block_bounds n) (LawfulBlock n) (block_back n) bs gs (next os) z.sized.blocks l.blocks)

  orders_within : Fits day os fs bs gs → first_filled (λ o. quantity_rule o.quantity) os fs 1 ≡ Ok tt → AllZip (λ o. WithinQuantity o.quantity) os fs
  orders_within z e = each_out (λ o. quantity_rule o.quantity) (λ o. WithinQuantity o.quantity) (λ o f j. quantity_out o.quantity f j) os fs 1 z.sized.orders e

  within_out : Fits day os fs bs gs → quantities os fs bs gs ≡ Ok tt → WithinBook os fs bs gs
  within_out z e =
      let p = then_ok (first_filled (λ o. quantity_rule o.quantity) os fs 1) (first_filled (λ b. quantity_rule b.quantity) bs gs (next os)) tt e in
      record { orders = orders_within z p.0; blocks = each_out (λ b. quantity_rule b.quantity) (λ b. WithinQuantity b.quantity) (λ b f j. quantity_out b.quantity f j) bs gs (next os) z.sized.blocks p.1 }

  within_back : WithinBook os fs bs gs → quantities os fs bs gs ≡ Ok tt
  within_back w =
      then_both (first_filled (λ o. quantity_rule o.quantity) os fs 1) _ _
      (each_back (λ o. quantity_rule o.quantity) (λ o. WithinQuantity o.quantity) (λ o f j. quantity_back o.quantity f j) os fs 1 w.orders)
      (each_back (λ b. quantity_rule b.quantity) (λ b. WithinQuantity b.quantity) (λ b f j. quantity_back b.quantity f j) bs gs (next os) w.blocks)

  orders_meet : Fits day os fs bs gs → first_filled (order_price day) os fs 1 ≡ Ok tt → AllZip (OrderMeetsPrice day) os fs
  orders_meet z e = each_out (order_price day) (OrderMeetsPrice day) (order_price_out day) os fs 1 z.sized.orders e

  prices_out : Fits day os fs bs gs → prices day os fs bs gs ≡ Ok tt → AllZip (OrderMeetsPrice day) os fs × AllZip (BlockMeets day) bs gs
  prices_out z e =
      let p = then_ok (first_filled (order_price day) os fs 1) (first_filled (block_price day) bs gs (next os)) tt e in
      (orders_meet z p.0, each_out (block_price day) (BlockMeets day) (block_price_out day) bs gs (next os) z.sized.blocks p.1)

  prices_back : AllZip (OrderMeetsPrice day) os fs → AllZip (BlockMeets day) bs gs → prices day os fs bs gs ≡ Ok tt
  prices_back o b =
      then_both (first_filled (order_price day) os fs 1) _ _ (each_back (order_price day) (OrderMeetsPrice day) (order_price_back day) os fs 1 o) (each_back (block_price day) (BlockMeets day) (block_price_back day) bs gs (next os) b)

  balanced_test : (i : ℕ) → BalancedAt day os fs bs gs i → same (net_of (1 + i) os fs bs gs) (get_or day i fresh).net ≡ true
  balanced_test i h = same_yes _ _ h

  balanced_one : (i : ℕ) → interval_balance os fs bs gs (get_or day i fresh) (1 + i) ≡ Ok tt → BalancedAt day os fs bs gs i
  balanced_one i e = same_true (net_of (1 + i) os fs bs gs) (get_or day i fresh).net (tests_out ((same (net_of (1 + i) os fs bs gs) (get_or day i fresh).net, Unbalanced (1 + i)) ∷ []) e).0

  balanced_out : balances day os fs bs gs ≡ Ok tt → Balanced day os fs bs gs
  balanced_out e i l = balanced_one i (balance_out (interval_balance os fs bs gs) day 1 e i l)

  balanced_back : Balanced day os fs bs gs → balances day os fs bs gs ≡ Ok tt
  balanced_back h =
      balance_back (interval_balance os fs bs gs) day 1
      (λ i l j e. let at : 1 + i ≡ j = omega arith in
      subst (λ (k : ℕ). interval_balance os fs bs gs (get_or day i fresh) k ≡ Ok tt) at
      (tests_back ((same (net_of (1 + i) os fs bs gs) (get_or day i fresh).net, Unbalanced (1 + i)) ∷ []) (balanced_test i (h i l), tt)))

  -- ---- a pass
  passes_out : (w : ℤ) → verdict_of day os fs bs gs ≡ Ok w → InOrder day os fs bs gs × Passes day os fs bs gs × (w ≡ welfare os fs bs gs)
  passes_out w e =
      let p1 = then_ok (lengths day os fs bs gs) _ w e in
      let p2 = then_ok (bounds n os bs) _ w p1.1 in
      let p3 = then_ok (quantities os fs bs gs) _ w p2.1 in
      let p4 = then_ok (prices day os fs bs gs) _ w p3.1 in
      let p5 = then_ok (balances day os fs bs gs) _ w p4.1 in
      let z = fits_from day os fs bs gs p1.0 in
      let r = prices_out z p4.0 in
      let same_w : Ok (welfare os fs bs gs) ≡ Ok w = p5.1 in
      let v : w ≡ welfare os fs bs gs = cc in
      ((z, book_out z p2.0), record { within = within_out z p3.0; orders = r.0; blocks = r.1; balanced = balanced_out p5.0 }, v)

  passes_back : InOrder day os fs bs gs × Passes day os fs bs gs → verdict_of day os fs bs gs ≡ Ok (welfare os fs bs gs)
  passes_back (z, p) =
      then_both (lengths day os fs bs gs) _ _ (fits_back day os fs bs gs z.0)
      (then_both (bounds n os bs) _ _ (book_back z.0 z.1)
      (then_both (quantities os fs bs gs) _ _ (within_back p.within)
      (then_both (prices day os fs bs gs) _ _ (prices_back p.orders p.blocks)
      (then_both (balances day os fs bs gs) _ _ (balanced_back p.balanced) refl))))

  -- ---- the first broken rule
  module _ (e : Refusal) where
    abbrev Here : Type 0
    Here = Broken day os fs bs gs e

    broken_as : (d : Refusal) → e ≡ d → Broken day os fs bs gs d → Here
    broken_as d q b = subst (Broken day os fs bs gs) (sym q) b

    out_of_bounds : Fits day os fs bs gs → (first_in (λ o k. outside k (order_bounds n o)) os 1 ≡ Err e) ⊎ ((first_in (λ o k. outside k (order_bounds n o)) os 1 ≡ Ok tt) × (first_in (λ b k. outside k (block_bounds n b)) bs (next os) ≡ Err e)) → Here
    out_of_bounds z = ⊎_elim
        (λ p. let t = lowest_in (λ o k. outside k (order_bounds n o)) no_order os fs 1 e z.sized.orders p in
        let r = outside_err (1 + t.place) (order_bounds n (get_or os t.place no_order)) e (order_back n (get_or os t.place no_order)) t.refused in
        broken_as _ r.1 (order_outside t.place record { there = t.there; breaks = r.0; before = λ j l. order_out n (get_or os j no_order) (outside_out (1 + j) _ (t.before j l)) }))
        (λ p. let t = lowest_in (λ b k. outside k (block_bounds n b)) no_block bs gs (next os) e z.sized.blocks p.1 in
        let r = outside_err (next os + t.place) (block_bounds n (get_or bs t.place no_block)) e (block_back n (get_or bs t.place no_block)) t.refused in
        broken_as _ r.1 (block_outside (lawful_out (order_bounds n) (LawfulOrder n) (order_out n) os fs 1 z.sized.orders p.0) t.place record { there = t.there; breaks = r.0; before = λ j l. block_out n (get_or bs j no_block) (outside_out (next os + j) _ (t.before j l)) }))

    over_quantity : Fits day os fs bs gs → LawfulBook n os bs → (first_filled (λ o. quantity_rule o.quantity) os fs 1 ≡ Err e) ⊎ ((first_filled (λ o. quantity_rule o.quantity) os fs 1 ≡ Ok tt) × (first_filled (λ b. quantity_rule b.quantity) bs gs (next os) ≡ Err e)) → Here
    over_quantity z l = ⊎_elim
        (λ p. let t = lowest (λ o. quantity_rule o.quantity) no_order os fs 1 e p in
        let r = quantity_err (get_or os t.place no_order).quantity (get_or fs t.place 0) (1 + t.place) e t.refused in
        broken_as _ r.1 (order_over l t.place record { there = t.there; breaks = r.0; before = λ j h. quantity_out (get_or os j no_order).quantity (get_or fs j 0) (1 + j) (t.before j h) }))
        (λ p. let t = lowest (λ b. quantity_rule b.quantity) no_block bs gs (next os) e p.1 in
        let r = quantity_err (get_or bs t.place no_block).quantity (get_or gs t.place 0) (next os + t.place) e t.refused in
        broken_as _ r.1 (block_over l (orders_within z p.0) t.place record { there = t.there; breaks = r.0; before = λ j h. quantity_out (get_or bs j no_block).quantity (get_or gs j 0) (next os + j) (t.before j h) }))

    order_mispriced : LawfulBook n os bs → WithinBook os fs bs gs → Lowest (order_price day) no_order os fs 1 e → Here
    order_mispriced l w t =
        let i : ℕ = t.place in
        let o : Order = get_or os i no_order in
        let f : ℕ = get_or fs i 0 in
        let p : ℤ = price_at day o.interval in
        let before : (j : ℕ) → j < i → OrderAt day os fs bs gs (OrderMeetsPrice day) j = λ j h. order_price_out day (get_or os j no_order) (get_or fs j 0) (1 + j) (t.before j h) in
        ⊎_elim
        (λ r. broken_as (ShouldBeEmpty (1 + i)) r.1 (order_not_empty l w i record { there = t.there; breaks = fails (not (misses o.side o.limit p) || eqb f 0) r.0 (empty_back o.limit p f o.side); before = before }))
        (λ r. broken_as (ShouldBeFull (1 + i)) r.2 (order_not_full l w i record { there = t.there; breaks = (empty_out o.limit p f o.side r.0, fails (not (beats o.side o.limit p) || full o.quantity f) r.1 (full_back o.limit p f o.side o.quantity)); before = before }))
        (two_err (not (misses o.side o.limit p) || eqb f 0) (not (beats o.side o.limit p) || full o.quantity f) (ShouldBeEmpty (1 + i)) (ShouldBeFull (1 + i)) e t.refused)

    block_mispriced : LawfulBook n os bs → WithinBook os fs bs gs → AllZip (OrderMeetsPrice day) os fs → Lowest (block_price day) no_block bs gs (next os) e → Here
    block_mispriced l w m t =
        let i : ℕ = t.place in
        let b : Block = get_or bs i no_block in
        let f : ℕ = get_or gs i 0 in
        let before : (j : ℕ) → j < i → BlockAt day os fs bs gs (BlockMeets day) j = λ j h. block_price_out day (get_or bs j no_block) (get_or gs j 0) (next os + j) (t.before j h) in
        ⊎_elim
        (λ r. broken_as (BelowLeast (next os + i)) r.1 (block_below_least l w m i record { there = t.there; breaks = fails (eqb f 0 || enough b f) r.0 (least_back b f); before = before }))
        (λ r. broken_as (BlockPrice (next os + i)) r.2 (block_not_paid l w m i record { there = t.there; breaks = (least_out b f r.0, fails (eqb f 0 || paid b f day) r.1 (price_back b f day)); before = before }))
        (two_err (eqb f 0 || enough b f) (eqb f 0 || paid b f day) (BelowLeast (next os + i)) (BlockPrice (next os + i)) e t.refused)

    off_balance : LawfulBook n os bs → WithinBook os fs bs gs → AllZip (OrderMeetsPrice day) os fs → AllZip (BlockMeets day) bs gs → balances day os fs bs gs ≡ Err e → Here
    off_balance l w m k p =
        let t = lowest_in (interval_balance os fs bs gs) fresh day (replicate n 0) 1 e (sym (length-replicate n 0)) p in
        let i : ℕ = t.place in
        let r = one_err (same (net_of (1 + i) os fs bs gs) (get_or day i fresh).net) (Unbalanced (1 + i)) e t.refused in
        broken_as (Unbalanced (1 + i)) r.1 (unbalanced l w m k i record { there = t.there; breaks = fails (same (net_of (1 + i) os fs bs gs) (get_or day i fresh).net) r.0 (balanced_test i); before = λ j h. balanced_one j (t.before j h) })

    then_err : {X : Type 0} (r : Result Unit Refusal) (s : Result X Refusal) → result_and r s ≡ Err e → (r ≡ Err e) ⊎ ((r ≡ Ok tt) × (s ≡ Err e))
    then_err (Ok u) s p = inr (refl, p)
    then_err (Err f) s p = inl (cc)

    first_broken : verdict_of day os fs bs gs ≡ Err e → FirstBroken day os fs bs gs e
    first_broken v = ⊎_elim
        (λ p. let t = one_err (lengths_ok n os fs bs gs) Short e p in inl (fails (lengths_ok n os fs bs gs) t.0 (fits_test day os fs bs gs), t.1))
        (λ p. let z = fits_from day os fs bs gs p.0 in inr (
          z,
          ⊎_elim
              (λ b. out_of_bounds z (then_err (first_in (λ o k. outside k (order_bounds n o)) os 1) _ b))
              (λ q. let l = book_out z q.0 in ⊎_elim
              (λ b. over_quantity z l (then_err (first_filled (λ o. quantity_rule o.quantity) os fs 1) _ b))
              (λ r. let w = within_out z r.0 in ⊎_elim
              (λ b. ⊎_elim
              (λ x. order_mispriced l w (lowest (order_price day) no_order os fs 1 e x))
              (λ x. block_mispriced l w (orders_meet z x.0) (lowest (block_price day) no_block bs gs (next os) e x.1))
              (then_err (first_filled (order_price day) os fs 1) _ b))
              (λ s. let m = prices_out z s.0 in ⊎_elim
              (off_balance l w m.0 m.1)
              (λ t. absurd (never (welfare os fs bs gs) e t.1))
              (then_err (balances day os fs bs gs) _ s.1))
              (then_err (prices day os fs bs gs) _ r.1))
              (then_err (quantities os fs bs gs) _ q.1))
              (then_err (bounds n os bs) _ p.1),
        ))
        (then_err (lengths day os fs bs gs) _ v)

  pub judged : (r : Result ℤ Refusal) → r ≡ verdict_of day os fs bs gs → Judged day os fs bs gs r
  judged (Ok w) e = passes_out w (sym e)
  judged (Err d) e = (first_broken d (sym e), λ p. never (welfare os fs bs gs) d (sym (passes_back p) ∙ sym e))
