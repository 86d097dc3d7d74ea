-- Postings one after another, and taken back.
use Rattle.std.proofs.Common.{◌≡◌, ℕ, IfSome, zero, suc, ◌+◌, ◌-◌, ◌<◌, List, [], ◌∷◌, ◌++◌, length, take, slice_get, ◌+ℤ◌, neg_ℤ, Some, None, Ok, Err, Option, Result, sym, refl, ap, ◌∙◌, subst, ⊎_elim, add-zero, add-suc, add-one, arith}
use Rattle.std.specs.Result.{OnErr, result_and}
use Rattle.std.proofs.lemmas.Bool.{cases_eq}
use Rattle.std.proofs.lemmas.Int.{ints}
use Rattle.std.proofs.lemmas.List.{append-nil, append_assoc, take_all}
use Rattle.ledger.specs.declared.account.Account.{Account}
use Rattle.ledger.specs.declared.refusal.PostRefused.{PostRefused}
use Rattle.ledger.specs.Model.{answer, posted, after, Lawful, total}
use Rattle.ledger.proofs.Posting.{lawful-posted, taken_back, taken_small, total-posted}
use Rattle.posting.specs.declared.posting.Posting.{Posting}
use Rattle.posting.specs.Laws.{Stopped, Tells, Summed}
use Rattle.posting.specs.Postings.{one, listed, posted_all, answers, left, AllTaken, opposed, undone, Small, amounts}

pub posted_push : (m : List Account) (ps : List Posting) (p : Posting) → posted_all m (ps ++ p ∷ []) ≡ posted (posted_all m ps) p.account p.amount
posted_push m [] p = refl
posted_push m (q ∷ ps) p = posted_push (posted m q.account q.amount) ps p

pub taken_push : (m : List Account) (ps : List Posting) (p : Posting) → AllTaken m ps → answer (posted_all m ps) p.account p.amount ≡ Ok tt → AllTaken m (ps ++ p ∷ [])
taken_push m [] p t e = (e, tt)
taken_push m (q ∷ ps) p (h, t) e = (h, taken_push (posted m q.account q.amount) ps p t e)

pub taken_front : (m : List Account) (ps qs : List Posting) → AllTaken m (ps ++ qs) → AllTaken m ps
taken_front m [] qs t = tt
taken_front m (q ∷ ps) qs (h, t) = (h, taken_front (posted m q.account q.amount) ps qs t)

pub taken_last : (m : List Account) (ps : List Posting) (p : Posting) → AllTaken m (ps ++ p ∷ []) → answer (posted_all m ps) p.account p.amount ≡ Ok tt
taken_last m [] p (h, t) = h
taken_last m (q ∷ ps) p (h, t) = taken_last (posted m q.account q.amount) ps p t

pub taken-lawful : (m : List Account) (ps : List Posting) → Lawful m → AllTaken m ps → Lawful (posted_all m ps)
taken-lawful m [] l t = l
taken-lawful m (q ∷ ps) l (h, t) = taken-lawful (posted m q.account q.amount) ps (lawful-posted m q.account q.amount l h) t

pub answers_all : (m : List Account) (ps : List Posting) → AllTaken m ps → answers m ps ≡ Ok tt
answers_all m [] t = refl
answers_all m (q ∷ ps) (h, t) = rw h (answers_all (posted m q.account q.amount) ps t)

-- the answer at the first refusal
pub answers_stop : (m : List Account) (ps qs : List Posting) (p : Posting) (e : PostRefused) → AllTaken m ps → answer (posted_all m ps) p.account p.amount ≡ Err e → answers m (ps ++ p ∷ qs) ≡ Err e
answers_stop m [] qs p e t h = rw h
answers_stop m (q ∷ ps) qs p e (k, t) h = rw k (answers_stop (posted m q.account q.amount) ps qs p e t h)

-- what is taken moves the sum of all balances by the sum of the amounts
pub total_all : (m : List Account) (ps : List Posting) → AllTaken m ps → total (posted_all m ps) ≡ total m +ℤ amounts ps
total_all m [] t = omega (arith, ints)
total_all m (q ∷ ps) (h, t) =
    let a = total_all (posted m q.account q.amount) ps t in
    let b = total-posted m q.account q.amount h in
    omega (arith, ints)

-- the answer tells that all are taken
then_ok : (a r : Result (Unit {0}) PostRefused) → result_and a r ≡ Ok tt → (a ≡ Ok tt) × (r ≡ Ok tt)
then_ok (Ok _) r e = (refl, e)
then_ok (Err w) r e = let z : ◌≡◌ {A = ℕ} 0 1 = cc in absurd (omega arith)

pub all_taken : (m : List Account) (ps : List Posting) → answers m ps ≡ Ok tt → AllTaken m ps
all_taken m [] e = tt
all_taken m (q ∷ ps) e =
    let h = then_ok (answer m q.account q.amount) (answers (posted m q.account q.amount) ps) e in
    (h.0, all_taken (posted m q.account q.amount) ps h.1)

pub posted-append : (m : List Account) (ps qs : List Posting) → posted_all m (ps ++ qs) ≡ posted_all (posted_all m ps) qs
posted-append m [] qs = refl
posted-append m (p ∷ ps) qs = posted-append (posted m p.account p.amount) ps qs

pub taken-append : (m : List Account) (ps qs : List Posting) → AllTaken m ps → AllTaken (posted_all m ps) qs → AllTaken m (ps ++ qs)
taken-append m [] qs t u = u
taken-append m (p ∷ ps) qs (h, t) u = (h, taken-append (posted m p.account p.amount) ps qs t u)

pub answers-append : (m : List Account) (ps qs : List Posting) → AllTaken m ps → answers m (ps ++ qs) ≡ answers (posted_all m ps) qs
answers-append m [] qs t = refl
answers-append m (p ∷ ps) qs (h, t) = rw h (answers-append (posted m p.account p.amount) ps qs t)

then_err : (a r r' : Result (Unit {0}) PostRefused) (e : PostRefused) → (r ≡ Err e → r' ≡ Err e) → result_and a r ≡ Err e → result_and a r' ≡ Err e
then_err (Ok _) r r' e f h = f h
then_err (Err w) r r' e f h = h

-- a refusal is that of any longer list
pub answers_longer : (m : List Account) (ps qs : List Posting) (e : PostRefused) → answers m ps ≡ Err e → answers m (ps ++ qs) ≡ Err e
answers_longer m [] qs e h = let z : ◌≡◌ {A = ℕ} 0 1 = cc in absurd (omega arith)
answers_longer m (p ∷ ps) qs e h =
    then_err (answer m p.account p.amount) (answers (posted m p.account p.amount) ps) (answers (posted m p.account p.amount) (ps ++ qs)) e
    (answers_longer (posted m p.account p.amount) ps qs e) h

pub left_ok : (m : List Account) (ps : List Posting) → answers m ps ≡ Ok tt → left m ps ≡ posted_all m ps
left_ok m ps e = rw e

pub left_err : (m : List Account) (ps : List Posting) (e : PostRefused) → answers m ps ≡ Err e → left m ps ≡ m
left_err m ps e h = rw h

module _ (f : ℕ → Option Posting) where
  -- a place more
  pub listed_more : (n : ℕ) → listed f (n + 1) ≡ listed f n ++ one (f n)
  listed_more n = rw add-one

  -- the list from a place on
  unfoldable pub rest_from : ℕ → ℕ → List Posting
  rest_from i zero = []
  rest_from i (suc d) = rest_from i d ++ one (f (i + d))

  pub split_at : (i d : ℕ) → listed f (i + d) ≡ listed f i ++ rest_from i d
  unfolding rest_from
  split_at i zero = rw add-zero (sym (append-nil (listed f i)))
  split_at i (suc d) = rw add-suc (ap (λ l. l ++ one (f (i + d))) (split_at i d) ∙ append_assoc (listed f i) (rest_from i d) (one (f (i + d))))

  smalls_last : (m : List Account) (ps : List Posting) (o : Option Posting) → Lawful m → AllTaken m (ps ++ one o) → IfSome o Small
  smalls_last m ps None l t = tt
  smalls_last m ps (Some p) l t =
      let s = taken_small (posted_all m ps) p.account p.amount (taken-lawful m ps l (taken_front m ps (p ∷ []) t)) (taken_last m ps p t) in
      record { low = s.0; high = s.1 }

  pub smalls : (m : List Account) (n : ℕ) → Lawful m → AllTaken m (listed f n) → (k : ℕ) → k < n → IfSome (f k) Small
  smalls m zero l t k h = absurd (omega arith)
  smalls m (suc n) l t k h =
      ⊎_elim
      (λ e. subst (λ j. IfSome (f j) Small) (sym e) (smalls_last m (listed f n) (f n) l t))
      (λ ne. smalls m n l (taken_front m (listed f n) (one (f n)) t) k (omega arith))
      (cases_eq k n)

  undone_last : (m : List Account) (ps : List Posting) (o : Option Posting) → Lawful m → AllTaken m (ps ++ one o) → opposed (posted_all m (ps ++ one o)) o ≡ posted_all m ps
  undone_last m ps None l t = ap (posted_all m) (append-nil ps)
  undone_last m ps (Some p) l t =
      ap (λ k. after k p.account (neg_ℤ p.amount)) (posted_push m ps p) ∙ taken_back (posted_all m ps) p.account p.amount (taken-lawful m ps l (taken_front m ps (p ∷ []) t)) (taken_last m ps p t)

  -- taken back, all is as it was
  pub undone_all : (m : List Account) (n : ℕ) → Lawful m → AllTaken m (listed f n) → undone (posted_all m (listed f n)) f n ≡ m
  undone_all m zero l t = refl
  undone_all m (suc n) l t =
      ap (λ k. undone k f n) (undone_last m (listed f n) (f n) l t) ∙ undone_all m n l (taken_front m (listed f n) (one (f n)) t)

  module _ (m l : List Account) (i : ℕ) (so_far : l ≡ posted_all m (listed f i)) (taken : AllTaken m (listed f i)) where
    -- the posting at i is taken
    pub more_taken : answers l (one (f i)) ≡ Ok tt → AllTaken m (listed f (i + 1))
    more_taken e = subst (AllTaken m) (sym (listed_more i)) (taken-append m (listed f i) (one (f i)) taken (all_taken (posted_all m (listed f i)) (one (f i)) (ap (λ k. answers k (one (f i))) (sym so_far) ∙ e)))

    pub more_posted : (l' : List Account) → answers l (one (f i)) ≡ Ok tt → l' ≡ left l (one (f i)) → l' ≡ posted_all m (listed f (i + 1))
    more_posted l' e p = p ∙ left_ok l (one (f i)) e ∙ ap (λ k. posted_all k (one (f i))) so_far ∙ sym (posted-append m (listed f i) (one (f i))) ∙ sym (ap (posted_all m) (listed_more i))

    -- the posting at i is refused
    pub stopped : (n : ℕ) (e : PostRefused) → i < n → answers l (one (f i)) ≡ Err e → answers m (listed f n) ≡ Err e
    stopped n e lt h =
        let here : answers m (listed f (i + 1)) ≡ Err e = ap (answers m) (listed_more i) ∙ answers-append m (listed f i) (one (f i)) taken ∙ ap (λ k. answers k (one (f i))) (sym so_far) ∙ h in
        let long : i + 1 + (n - (i + 1)) ≡ n = omega arith in
        ap (λ k. answers m (listed f k)) (sym long) ∙ ap (answers m) (split_at (i + 1) (n - (i + 1))) ∙ answers_longer m (listed f (i + 1)) (rest_from (i + 1) (n - (i + 1))) e here

    pub restored : (n : ℕ) (e : PostRefused) → i < n → Lawful m → answers l (one (f i)) ≡ Err e → (l' l'' : List Account) → l' ≡ left l (one (f i)) → l'' ≡ undone l' f i → l'' ≡ left m (listed f n)
    restored n e lt lawful h l' l'' p b =
        let kept : l' ≡ posted_all m (listed f i) = p ∙ left_err l (one (f i)) e h ∙ so_far in
        b ∙ ap (λ k. undone k f i) kept ∙ undone_all m i lawful taken ∙ sym (left_err m (listed f n) e (stopped n e lt h))

  -- what stands at one place more is taken back
  pub undone_more : (m l l' : List Account) (k n : ℕ) (p : Posting) → 0 < k → Some p ≡ f (k - 1) → undone l f k ≡ undone m f n → l' ≡ after l p.account (neg_ℤ p.amount) → undone l' f (k - 1) ≡ undone m f n
  undone_more m l l' zero n p h here e t = absurd (omega arith)
  undone_more m l l' (suc k) n p h here e t =
      let down : suc k - 1 ≡ k = omega arith in
      let t' : l' ≡ opposed l (f k) = t ∙ ap (opposed l) (here ∙ ap f down) in
      ap (λ j. undone l' f j) down ∙ ap (λ q. undone q f k) t' ∙ e

-- the list by places is the list
take_slot : (ps : List Posting) (n : ℕ) → take (suc n) ps ≡ take n ps ++ one (slice_get ps n)
take_slot [] zero = refl
take_slot [] (suc n) = refl
take_slot (p ∷ ps) zero = refl
take_slot (p ∷ ps) (suc n) = ap (λ l. p ∷ l) (take_slot ps n)

listed-take : (ps : List Posting) (n : ℕ) → listed (slice_get ps) n ≡ take n ps
listed-take ps zero = refl
listed-take ps (suc n) = ap (λ l. l ++ one (slice_get ps n)) (listed-take ps n) ∙ sym (take_slot ps n)

pub listed_all : (ps : List Posting) → listed (slice_get ps) (length ps) ≡ ps
listed_all ps = listed-take ps (length ps) ∙ take_all (length ps) ps (omega arith)

-- what the answer to all tells
pub unmoved_left : (r : Result (Unit {0}) PostRefused) (m m' : List Account) (ps : List Posting) → r ≡ answers m ps → m' ≡ left m ps → OnErr r (m' ≡ m)
unmoved_left (Ok _) m m' ps e p = tt
unmoved_left (Err w) m m' ps e p = p ∙ left_err m ps w (sym e)

pub summed_left : (r : Result (Unit {0}) PostRefused) (m m' : List Account) (ps : List Posting) → r ≡ answers m ps → m' ≡ left m ps → Summed r ps m m'
summed_left (Ok tt) m m' ps e p = ap total (p ∙ left_ok m ps (sym e)) ∙ total_all m ps (all_taken m ps (sym e))
summed_left (Err w) m m' ps e p = ap total (p ∙ left_err m ps w (sym e))

stopped_later : (m : List Account) (p : Posting) (ps : List Posting) (e : PostRefused) → answer m p.account p.amount ≡ Ok tt → Stopped (posted m p.account p.amount) ps e → Stopped m (p ∷ ps) e
stopped_later m p ps e t s =
    record { before = p ∷ s.before; here = s.here; rest = s.rest; split = ap (λ l. p ∷ l) s.split; taken = (t, s.taken); refused = s.refused }

-- the posting at the head is taken or refused
stopped_by : (m : List Account) (p : Posting) (ps : List Posting) (e : PostRefused) (a r : Result (Unit {0}) PostRefused) → answer m p.account p.amount ≡ a → (r ≡ Err e → Stopped (posted m p.account p.amount) ps e) → result_and a r ≡ Err e → Stopped m (p ∷ ps) e
stopped_by m p ps e (Ok tt) r t again h = stopped_later m p ps e t (again h)
stopped_by m p ps e (Err w) r t again h = record { before = []; here = p; rest = ps; split = refl; taken = tt; refused = t ∙ h }

pub refused-stopped : (m : List Account) (ps : List Posting) (e : PostRefused) → answers m ps ≡ Err e → Stopped m ps e
refused-stopped m [] e h = let z : ◌≡◌ {A = ℕ} 0 1 = cc in absurd (omega arith)
refused-stopped m (p ∷ ps) e h =
    stopped_by m p ps e (answer m p.account p.amount) (answers (posted m p.account p.amount) ps) refl (refused-stopped (posted m p.account p.amount) ps e) h

pub answers_tells : (m : List Account) (ps : List Posting) (r : Result (Unit {0}) PostRefused) → r ≡ answers m ps → Tells m ps r
answers_tells m ps (Ok tt) e = all_taken m ps (sym e)
answers_tells m ps (Err w) e = refused-stopped m ps w (sym e)

pub tells_answers : (m : List Account) (ps : List Posting) (r : Result (Unit {0}) PostRefused) → Tells m ps r → r ≡ answers m ps
tells_answers m ps (Ok tt) t = sym (answers_all m ps t)
tells_answers m ps (Err w) t = sym (ap (answers m) t.split ∙ answers_stop m t.before t.rest t.here w t.taken t.refused)
