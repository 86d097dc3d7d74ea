-- A test of an inclusive range of signed numbers, and what it lets through.
use Rattle.std.proofs.Common.{◌≡◌, Bool, true, false, cond, ℤ, ◌+ℤ◌, Some, None, is_le, Less, Equal, Greater, refl, ◌∙◌, arith}
use Rattle.std.specs.Bool.{then_some}
use lib.Signed.{le_z, lt_z}
use Rattle.std.proofs.lemmas.Int.{ints}
use Rattle.ledger.specs.declared.account.Account.{Account}
use Rattle.ledger.specs.Model.{within, raised}

-- an order of two numbers that is at most Equal is the test of `≤`
pub le_answers : (a b : ℤ) → is_le (cond (lt_z a b) Less (cond (lt_z b a) Greater Equal)) ≡ le_z a b
le_answers a b = grind (arith, ints)

then_cond : (b : Bool) (z : ℤ) → then_some b z ≡ cond b (Some z) None
then_cond true z = refl
then_cond false z = refl

-- a sum that is let through where it is within the bounds is the balance raised
pub lets_through : (a : Account) (x sum : ℤ) (b : Bool) → sum ≡ a.balance +ℤ x → b ≡ within a sum → then_some b sum ≡ raised a x
lets_through a x sum b e h = then_cond b sum ∙ rw (h, e)
