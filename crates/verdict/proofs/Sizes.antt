-- How large fills, spans and products of numbers within the bounds of entry can be.
use Rattle.std.proofs.Common.{◌≡◌, ℕ, ◌*◌, ◌≤◌, true, ℤ, pos, ◌*ℤ◌, ◌≤ℤ◌, unsigned_abs, mul-le-mul, arith}
use Rattle.std.proofs.lemmas.Int.{unsigned_abs-mul}
use borrow.Author.Differences.{ints, abs_is}
use Rattle.market.specs.declared.records.Block.{Block}
use Rattle.market.specs.Bounds.{quantity_ok, least_ok, span_ok}
use Rattle.market.specs.Signed.{Within}
use Rattle.market.proofs.Facts.{sized, shared, from_first, to_last, first_last}
use Rattle.verdict.specs.Rules.{thousandths, span, within}
use Rattle.verdict.specs.Worths.{Spans}

-- a fill within a lawful quantity
pub fill_small : (q : ℤ) (f : ℕ) → quantity_ok q ≡ true → within q f ≡ true → f ≤ 1000000
fill_small q f e w = let s = sized q e in omega (arith, ints)

pub span_small : (n : ℕ) (b : Block) → n ≤ 100 → span_ok n b.first b.last ≡ true → (pos 1 ≤ℤ span b) × (span b ≤ℤ pos 100)
span_small n b h e =
    let p = from_first n b.first b.last e in
    let q = to_last n b.first b.last e in
    let r = first_last n b.first b.last e in
    (omega (arith, ints), omega (arith, ints))

product_small : (a b : ℤ) (m n : ℕ) → unsigned_abs a ≤ m → unsigned_abs b ≤ n → Within (m * n) (a *ℤ b)
product_small a b m n p q =
    let h = mul-le-mul p q in
    let k = unsigned_abs-mul a b in
    record { low = omega (arith, ints, abs_is (a *ℤ b)); high = omega (arith, ints, abs_is (a *ℤ b)) }

-- a percentage of a quantity in thousandths
pub share_small : (l q : ℤ) → quantity_ok q ≡ true → least_ok l ≡ true → Within 100000000 (l *ℤ thousandths q)
share_small l q e h =
    let s = sized q e in
    let m = shared l h in
    product_small l (thousandths q) 100 1000000 (omega (arith, ints, abs_is l)) (omega (arith, ints, abs_is (thousandths q)))

-- a worth in each of a block's intervals
pub worth_small : (w : ℤ) (b : Block) → Within 400000000000 w → Spans b → Within 40000000000000 (w *ℤ span b)
worth_small w b e s =
    product_small w (span b) 400000000000 100 (omega (arith, ints, abs_is w)) (omega (arith, ints, abs_is (span b)))
