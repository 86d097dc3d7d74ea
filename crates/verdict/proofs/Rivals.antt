-- A paper that passes has the most welfare of all that fill the blocks alike.
use Rattle.std.proofs.Common.{◌≡◌, ℕ, ◌+◌, ◌-◌, ◌*◌, ◌≤◌, List, [], ◌∷◌, length, get_or, ℤ, pos, nat_abs, ◌≤ℤ◌, Ok, Err, Result, sym, ◌∙◌, subst, arith}
use borrow.Author.Differences.{ints, abs_is}
use Rattle.std.specs.List.{AllByRecursion as Every}
use Rattle.market.specs.declared.records.Side.{Side}
use Rattle.market.specs.declared.records.Side.TheVariants.{Sell, Buy}
use Rattle.market.specs.declared.records.Order.{Order}
use Rattle.market.specs.declared.records.Block.{Block}
use Rattle.market.specs.declared.records.Interval.{Interval}
use Rattle.market.specs.declared.refusal.Refusal.{Refusal}
use Rattle.market.specs.Blank.{fresh}
use Rattle.std.specs.List.{AllZip}
use Rattle.verdict.specs.Sums.{sum_filled}
use Rattle.market.specs.Kinds.{orders}
use Rattle.verdict.specs.Balance.{sale_in, net_of}
use Rattle.verdict.specs.Passes.{LawfulOrder, LawfulBook, WithinQuantity, EmptyIfWorse, FullIfBetter, OrderMeetsPrice, Balanced, Passes}
use Rattle.verdict.specs.Broken.{Judged}
use Rattle.verdict.specs.Best.{Best, BestIfPassed}
use Rattle.verdict.proofs.Optimal.{Rules, Within, none, more, Meets, InDay, welfare_most, welfare_same, welfare_tie}

-- the rule of the price, with the quantity as a natural number
rules_from : (s : Side) (l q p : ℤ) (f : ℕ) → pos 1 ≤ℤ q → WithinQuantity q f → EmptyIfWorse s l p f → FullIfBetter s l p q f → Rules s l (100 * nat_abs q) p f
rules_from Sell l q p f h w e r = (e, λ k. let x = r k in omega (arith, ints, abs_is q))
rules_from Buy l q p f h w e r = (e, λ k. let x = r k in omega (arith, ints, abs_is q))

empty_to : (s : Side) (l q p : ℤ) (f : ℕ) → Rules s l (100 * nat_abs q) p f → EmptyIfWorse s l p f
empty_to Sell l q p f r = r.0
empty_to Buy l q p f r = r.0

full_to : (s : Side) (l q p : ℤ) (f : ℕ) → pos 1 ≤ℤ q → Rules s l (100 * nat_abs q) p f → FullIfBetter s l p q f
full_to Sell l q p f h r = λ k. let e = r.1 k in omega (arith, ints, abs_is q)
full_to Buy l q p f h r = λ k. let e = r.1 k in omega (arith, ints, abs_is q)

most_from : (q : ℤ) (f : ℕ) → pos 1 ≤ℤ q → WithinQuantity q f → f ≤ 100 * nat_abs q
most_from q f h w = omega (arith, ints, abs_is q)

module _ (day : List Interval) where
  abbrev price : ℕ → ℤ
  price t = (get_or day (t - 1) fresh).price

  abbrev Fits : Order → ℕ → Type 0
  Fits o = WithinQuantity o.quantity

  in_day : (os : List Order) → Every (LawfulOrder (length day)) os → InDay (length day) os
  in_day [] a = tt
  in_day (o ∷ os) a = (a.0.in_day, in_day os a.1)

  within : (os : List Order) (hs : List ℕ) → Every (LawfulOrder (length day)) os → AllZip Fits os hs → Within os hs
  within [] [] a w = none
  within [] (h ∷ hs) a w = absurd w
  within (o ∷ os) [] a w = absurd w
  within (o ∷ os) (h ∷ hs) a w = more (most_from o.quantity h a.0.terms.sized.0 w.0) (within os hs a.1 w.1)

  meets : (os : List Order) (hs : List ℕ) → Every (LawfulOrder (length day)) os → AllZip Fits os hs → AllZip (OrderMeetsPrice day) os hs → Meets price os hs
  meets [] hs a w m = tt
  meets (o ∷ os) [] a w m = tt
  meets (o ∷ os) (h ∷ hs) a w m =
      (rules_from o.side o.limit o.quantity (price (nat_abs o.interval)) h a.0.terms.sized.0 w.0 m.0.empty m.0.full, meets os hs a.1 w.1 m.1)

  met : (os : List Order) (hs : List ℕ) → Every (LawfulOrder (length day)) os → AllZip Fits os hs → Meets price os hs → AllZip (OrderMeetsPrice day) os hs
  met [] [] a w m = tt
  met [] (h ∷ hs) a w m = absurd w
  met (o ∷ os) [] a w m = absurd w
  met (o ∷ os) (h ∷ hs) a w m = (
    record {
      empty = empty_to o.side o.limit o.quantity (price (nat_abs o.interval)) h m.0;
      full = full_to o.side o.limit o.quantity (price (nat_abs o.interval)) h a.0.terms.sized.0 m.0;
    },
    met os hs a.1 w.1 m.1,
  )

  -- papers that both balance, with the same fills of the blocks, sell as much by orders in each interval
  same_sales : (os : List Order) (fs hs : List ℕ) (bs : List Block) (gs : List ℕ) → Balanced day os fs bs gs → Balanced day os hs bs gs
      → (t : ℕ) → 1 ≤ t → t ≤ length day → sum_filled (sale_in orders t) os hs ≡ sum_filled (sale_in orders t) os fs
  same_sales os fs hs bs gs p r t a b =
      let e : net_of (1 + (t - 1)) os hs bs gs ≡ net_of (1 + (t - 1)) os fs bs gs = r (t - 1) (omega arith) ∙ sym (p (t - 1) (omega arith)) in
      let at : 1 + (t - 1) ≡ t = omega arith in
      let x : net_of t os hs bs gs ≡ net_of t os fs bs gs = subst (λ (k : ℕ). net_of k os hs bs gs ≡ net_of k os fs bs gs) at e in
      omega (arith, ints)

  pub best : (os : List Order) (fs : List ℕ) (bs : List Block) (gs : List ℕ) → LawfulBook (length day) os bs → Passes day os fs bs gs → Best day os fs bs gs
  best os fs bs gs l p hs r =
      let n : ℕ = length day in
      let a = l.orders in
      let e = same_sales os fs hs bs gs p.balanced r.balanced in
      let d = in_day os a in
      let w = within os fs a p.within.orders in
      let v = within os hs a r.within in
      let m = meets os fs a p.within.orders p.orders in (
        omega (arith, ints, welfare_most price n os fs hs d w m v e),
        (λ k. record {
          within = record { orders = r.within; blocks = p.within.blocks };
          orders = met os hs a r.within (welfare_tie price n os fs hs d w m v e (omega (arith, ints)));
          blocks = p.blocks;
          balanced = r.balanced;
        }),
        (λ q. omega (arith, ints, welfare_same price n os fs hs d w m v e (meets os hs a r.within q.orders))),
      )

pub best_if : (day : List Interval) (os : List Order) (fs : List ℕ) (bs : List Block) (gs : List ℕ) (r : Result ℤ Refusal) → Judged day os fs bs gs r → BestIfPassed day os fs bs gs r
best_if day os fs bs gs (Ok w) j = best day os fs bs gs j.0.1 j.1
best_if day os fs bs gs (Err e) j = tt
