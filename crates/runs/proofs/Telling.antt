-- Runs that are told by their calls and outcomes.
use Rattle.std.proofs.Common.{◌≡◌, ℕ, zero, suc, ◌+◌, ◌<◌, ◌≤◌, List, ◌∷◌, ◌++◌, length, get_or, drop, set, sym, refl, ap, ◌∙◌, subst, add-one, arith}
use Rattle.std.proofs.lemmas.List.{get_or-set_same, get_or-set_other, drop-set-lt, drop-drop}
use Rattle.market.specs.declared.records.Order.{Order}
use Rattle.market.specs.declared.records.Block.{Block}
use Rattle.engine.specs.declared.call.Call.{Call}
use Rattle.engine.specs.declared.call.Outcome.{Outcome}
use Rattle.engine.specs.declared.book.Passed.{Passed}
use Rattle.entries.specs.declared.work.Work.{Work}
use Rattle.entries.specs.Settles.{WorkLengths, SameSlices}
use Rattle.engine.specs.Steps.{Paper, State, paper_of, Takes}
use Rattle.runs.specs.Runs.{Event, event_of, Run, start, next}
use Rattle.runs.specs.Plays.{no_call, no_outcome, told}

-- a later outcome does not change what was told
told_before : (cs : List Call) (os : List Outcome) (j : ℕ) (o : Outcome) (k : ℕ) → k ≤ j → told cs (set os j o) k ≡ told cs os k
told_before cs os j o zero h = refl
told_before cs os j o (suc k) h =
    let here = get_or-set_other os j k o no_outcome (λ e. omega arith) in
    ap (λ (x : Outcome). event_of (get_or cs k no_call) x ∷ told cs (set os j o) k) here ∙ ap (λ (t : List Event). event_of (get_or cs k no_call) (get_or os k no_outcome) ∷ t) (told_before cs os j o k (omega arith))

-- one more call
told_more : (cs : List Call) (os : List Outcome) (k : ℕ) (o : Outcome) → k < length os → told cs (set os k o) (k + 1) ≡ event_of (get_or cs k no_call) o ∷ told cs os k
told_more cs os k o h =
    ap (told cs (set os k o)) (add-one k)
    ∙ ap (λ (x : Outcome). event_of (get_or cs k no_call) x ∷ told cs (set os k o) k) (get_or-set_same os k o no_outcome h)
    ∙ ap (λ (t : List Event). event_of (get_or cs k no_call) o ∷ t) (told_before cs os k o k (omega arith))

-- the run with one more call, which was made on the same book
pub run_more : (p q : Passed) (os : List Order) (fs : List ℕ) (bs : List Block) (gs : List ℕ) (w : WorkLengths) (s₀ s s' : State) (cs : List Call) (outs : List Outcome) (k : ℕ) (o : Outcome)
    → p ≡ q → k < length outs → Run (paper_of q os fs bs gs) s₀ (told cs outs k) s → Takes (paper_of p os fs bs gs) w s (get_or cs k no_call) o s'
    → Run (paper_of q os fs bs gs) s₀ (told cs (set outs k o) (k + 1)) s'
run_more p q os fs bs gs w s₀ s s' cs outs k o e h r t =
    subst (λ (x : List Event). Run (paper_of q os fs bs gs) s₀ x s') (sym (told_more cs outs k o h))
    (next r (record { work = w; takes = subst (λ (b : Passed). Takes (paper_of b os fs bs gs) w s (get_or cs k no_call) o s') e t }))

pub drop_on : (xs ys : List Outcome) (k : ℕ) (y : Outcome) → drop k xs ≡ drop k ys → drop (k + 1) (set xs k y) ≡ drop (k + 1) ys
drop_on xs ys k y e = drop-set-lt (k + 1) xs k y (omega arith) ∙ sym (drop-drop 1 k xs) ∙ ap (drop 1) e ∙ drop-drop 1 k ys

-- one run after another
pub run_on : (p : Paper) (a b c : State) (h k : List Event) → Run p a h b → Run p b k c → Run p a (k ++ h) c
run_on p a b c h k r start = r
run_on p a b c h k r (next {h = l} {s = t} q m) = next (run_on p a b t h l r q) m

-- the working slices stay the same ones
pub slices_stay : (w : Work) → SameSlices w w
slices_stay w = record { numbers = refl; lists = record { orders = refl; blocks = refl; order_count = refl; block_count = refl }; lengths = refl }

pub slices_on : (a b c : Work) → SameSlices a b → SameSlices b c → SameSlices a c
slices_on a b c s t = record {
  numbers = t.numbers ∙ s.numbers;
  lists = record {
    orders = t.lists.orders ∙ s.lists.orders;
    blocks = t.lists.blocks ∙ s.lists.blocks;
    order_count = t.lists.order_count ∙ s.lists.order_count;
    block_count = t.lists.block_count ∙ s.lists.block_count;
  };
  lengths = t.lengths ∙ s.lengths;
}
