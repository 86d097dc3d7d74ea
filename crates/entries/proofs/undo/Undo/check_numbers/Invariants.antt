use Rattle.std.proofs.Common.{◌≡◌, ◌+◌, ◌-◌, length}
use Rattle.entries.specs.Voids.{reversal_of, number_rule, first_from}
use Rattle.entries.proofs.undo.Undo.check_numbers.Given as goal

-- what is left gives the whole answer
abbrev pub invariant-loop-place : goal.invariant-loop-place
invariant-loop-place l =
    first_from (number_rule (reversal_of l.self) l.sheet) l.place (length l.self.delivery.book.orders.now + length l.self.delivery.book.blocks.now - l.place)
    ≡ first_from (number_rule (reversal_of l.self) l.sheet) 0 (length l.self.delivery.book.orders.now + length l.self.delivery.book.blocks.now)
