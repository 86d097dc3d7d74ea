-- What a verdict says: the welfare of a paper that keeps every rule, or the first rule that is broken, with its place.
use Rattle.std.specs.Prelude.{◌≡◌, ℕ, ◌+◌, ◌<◌, ◌⊎◌, List, length, ℤ, Ok, Err, Result, slice_index, slice_index_or}
use Rattle.std.specs.List.{AllByRecursion as Every}
use Rattle.market.specs.declared.records.Order.{Order}
use Rattle.market.specs.declared.records.Block.{Block}
use Rattle.market.specs.declared.records.Interval.{Interval}
use Rattle.market.specs.declared.refusal.Refusal.{Refusal}
use Rattle.market.specs.declared.refusal.Refusal.TheVariants.{Short, OutsideBounds, OverQuantity, ShouldBeEmpty, ShouldBeFull, BelowLeast, BlockPrice, Unbalanced}
use Rattle.market.specs.Blank.{no_order, no_block}
use Rattle.std.specs.List.{AllZip}
use Rattle.verdict.specs.Rules.{price_at}
use Rattle.verdict.specs.Balance.{welfare}
use Rattle.verdict.specs.Verdict.{next}
use Rattle.verdict.specs.Passes.{LawfulOrder, LawfulBlock, LawfulBook, Fits, WithinQuantity, EmptyIfWorse, FullIfBetter, OrderMeetsPrice, BlockMeetsLeast, BlockMeetsPrice, BlockMeets, WithinBook, BalancedAt, Passes}

-- the first of n places that breaks a rule: it breaks it, and every place before keeps it
pub record First (n : ℕ) (Keeps Breaks : ℕ → Type 0) (i : ℕ) : Type 0 where
  pub there : i < n
  pub breaks : Breaks i
  pub before : (j : ℕ) → j < i → Keeps j

-- the first of n places that does not keep a rule
abbrev pub FirstNot : ℕ → (ℕ → Type 0) → ℕ → Type 0
FirstNot n Keeps i = First n Keeps (λ j. Keeps j → ⊥) i

module _ (day : List Interval) (os : List Order) (fs : List ℕ) (bs : List Block) (gs : List ℕ) where
  -- the order at a place, from 0, with its fill
  abbrev pub OrderAt : (Order → ℕ → Type 0) → ℕ → Type 0
  OrderAt Says i = Says (slice_index_or os i no_order) (slice_index fs i)

  -- the block at a place, from 0, with its fill
  abbrev pub BlockAt : (Block → ℕ → Type 0) → ℕ → Type 0
  BlockAt Says i = Says (slice_index_or bs i no_block) (slice_index gs i)

  -- a fill where there should be none
  abbrev pub NotEmpty : Order → ℕ → Type 0
  NotEmpty o f = EmptyIfWorse o.side o.limit (price_at day o.interval) f → ⊥

  -- less than the whole quantity where it should be whole
  abbrev pub NotFull : Order → ℕ → Type 0
  NotFull o f =
      EmptyIfWorse o.side o.limit (price_at day o.interval) f
      × (FullIfBetter o.side o.limit (price_at day o.interval) o.quantity f → ⊥)

  -- enough of the block is filled, but the prices do not pay for it
  abbrev pub NotPaid : Block → ℕ → Type 0
  NotPaid b f = BlockMeetsLeast b f × (BlockMeetsPrice day b f → ⊥)

  -- the first broken rule of a paper of lawful lengths: everything that comes before it holds
  pub data Broken : Refusal → Type 0 where
    order_outside : (i : ℕ) → FirstNot (length os) (OrderAt (λ o f. LawfulOrder (length day) o)) i → Broken (OutsideBounds (1 + i))
    block_outside : Every (LawfulOrder (length day)) os
        → (i : ℕ) → FirstNot (length bs) (BlockAt (λ b f. LawfulBlock (length day) b)) i → Broken (OutsideBounds (next os + i))
    order_over : LawfulBook (length day) os bs
        → (i : ℕ) → FirstNot (length os) (OrderAt (λ o. WithinQuantity o.quantity)) i → Broken (OverQuantity (1 + i))
    block_over : LawfulBook (length day) os bs → AllZip (λ o. WithinQuantity o.quantity) os fs
        → (i : ℕ) → FirstNot (length bs) (BlockAt (λ b. WithinQuantity b.quantity)) i → Broken (OverQuantity (next os + i))
    order_not_empty : LawfulBook (length day) os bs → WithinBook os fs bs gs
        → (i : ℕ) → First (length os) (OrderAt (OrderMeetsPrice day)) (OrderAt NotEmpty) i → Broken (ShouldBeEmpty (1 + i))
    order_not_full : LawfulBook (length day) os bs → WithinBook os fs bs gs
        → (i : ℕ) → First (length os) (OrderAt (OrderMeetsPrice day)) (OrderAt NotFull) i → Broken (ShouldBeFull (1 + i))
    block_below_least : LawfulBook (length day) os bs → WithinBook os fs bs gs → AllZip (OrderMeetsPrice day) os fs
        → (i : ℕ) → First (length bs) (BlockAt (BlockMeets day)) (BlockAt (λ b f. BlockMeetsLeast b f → ⊥)) i → Broken (BelowLeast (next os + i))
    block_not_paid : LawfulBook (length day) os bs → WithinBook os fs bs gs → AllZip (OrderMeetsPrice day) os fs
        → (i : ℕ) → First (length bs) (BlockAt (BlockMeets day)) (BlockAt NotPaid) i → Broken (BlockPrice (next os + i))
    unbalanced : LawfulBook (length day) os bs → WithinBook os fs bs gs → AllZip (OrderMeetsPrice day) os fs → AllZip (BlockMeets day) bs gs
        → (i : ℕ) → FirstNot (length day) (BalancedAt day os fs bs gs) i → Broken (Unbalanced (1 + i))

  -- the first broken rule of any paper: its lengths come first
  abbrev pub FirstBroken : Refusal → Type 0
  FirstBroken e = ((Fits day os fs bs gs → ⊥) × (e ≡ Short)) ⊎ (Fits day os fs bs gs × Broken e)

  -- the memory and the records are in order
  abbrev pub InOrder : Type 0
  InOrder = Fits day os fs bs gs × LawfulBook (length day) os bs

  -- a pass with the welfare exactly where everything is in order and every rule holds; else the first that is broken
  abbrev pub Judged : Result ℤ Refusal → Type 0
  Judged (Ok w) = InOrder × Passes day os fs bs gs × (w ≡ welfare os fs bs gs)
  Judged (Err e) = FirstBroken e × (InOrder × Passes day os fs bs gs → ⊥)
