-- Judging a paper on a closed book: the verdict on the records that the book counts.
use Rattle.std.specs.Prelude.{◌≡◌, ℕ, ◌≤◌, Bool, ◌&&◌, ◌⊎◌, List, [], ◌∷◌, length, take, ℤ, Ok, Err, Result}
use Rattle.market.specs.declared.records.Order.{Order}
use Rattle.market.specs.declared.records.Block.{Block}
use Rattle.market.specs.declared.refusal.Refusal.{Refusal}
use Rattle.market.specs.declared.refusal.Refusal.TheVariants.{Short}
use Rattle.market.specs.Bounds.{each_filled}
use Rattle.market.specs.First.{tests}
use Rattle.std.specs.Result.{result_and}
use Rattle.verdict.specs.Balance.{welfare}
use Rattle.verdict.specs.Verdict.{verdict_of}
use Rattle.verdict.specs.Passes.{LawfulBook, Passes}
use Rattle.verdict.specs.Broken.{Broken}
use Rattle.verdict.specs.Best.{BestIfPassed}
use Rattle.engine.specs.declared.day.Day.{Day}
use Rattle.engine.specs.declared.book.Closed.{Closed}
use Rattle.engine.specs.declared.book.Pass.{Pass}
use Rattle.engine.specs.declared.book.Fail.{Fail}
use Rattle.engine.specs.Days.{records}
use Rattle.engine.specs.Books.{holds}

-- the test of the memory: no shorter than the counts, and as many fills as entries
abbrev pub memory_ok : Closed → List Order → List ℕ → List Block → List ℕ → Bool
memory_ok c os fs bs gs =
    holds c.counts os bs && each_filled c.counts.orders (length fs) c.counts.blocks (length gs)

-- what judging answers: 11 for the memory, then the verdict on the counted records
abbrev pub judge_answer : Closed → Day → List Order → List ℕ → List Block → List ℕ → Result ℤ Refusal
judge_answer c d os fs bs gs =
    result_and (tests ((memory_ok c os fs bs gs, Short) ∷ [])) (verdict_of (records d) (take c.counts.orders os) fs (take c.counts.blocks bs) gs)

-- no memory is shorter than its count, and each list of fills is as long as its count
pub record MemoryFits (c : Closed) (os : List Order) (fs : List ℕ) (bs : List Block) (gs : List ℕ) : Type 0 where
  pub orders : c.counts.orders ≤ length os
  pub blocks : c.counts.blocks ≤ length bs
  pub order_fills : length fs ≡ c.counts.orders
  pub block_fills : length gs ≡ c.counts.blocks

module _ (c : Closed) (d : Day) (os : List Order) (fs : List ℕ) (bs : List Block) (gs : List ℕ) where
  -- the orders and the blocks of the book
  abbrev pub book_orders : List Order
  book_orders = take c.counts.orders os

  abbrev pub book_blocks : List Block
  book_blocks = take c.counts.blocks bs

  -- the memory and the records are in order, and the paper keeps every rule
  pub record PaperPasses : Type 0 where
    pub memory : MemoryFits c os fs bs gs
    pub lawful : LawfulBook d.count book_orders book_blocks
    pub rules : Passes (records d) book_orders fs book_blocks gs

  -- a pass with the welfare exactly where the paper passes; else the first that is broken: everything before it holds
  abbrev pub PaperJudged : Result ℤ Refusal → Type 0
  PaperJudged (Ok w) = PaperPasses × (w ≡ welfare book_orders fs book_blocks gs)
  PaperJudged (Err e) =
      (((MemoryFits c os fs bs gs → ⊥) × (e ≡ Short)) ⊎ (MemoryFits c os fs bs gs × Broken (records d) book_orders fs book_blocks gs e))
      × (PaperPasses → ⊥)

  -- where the paper passes, no other fills of the orders do better, and those that do as well keep every rule too
  abbrev pub PaperBest : Result ℤ Refusal → Type 0
  PaperBest r = BestIfPassed (records d) book_orders fs book_blocks gs r

-- the verdict in what judging hands over
abbrev pub verdict_in : Result Pass Fail → Result ℤ Refusal
verdict_in (Ok pass) = Ok pass.welfare
verdict_in (Err fail) = Err fail.refusal

-- the passed book has the counts of the closed one, and a refusal gives the closed book back
abbrev pub Handed : Closed → Result Pass Fail → Type 0
Handed c (Ok pass) = pass.book.counts ≡ c.counts
Handed c (Err fail) = fail.book ≡ c
