use Rattle.std.proofs.Common.{◌≡◌, length}
use Rattle.entries.specs.Sheet.{written, of_interval, place_of}
use Rattle.entries.proofs.delivery.Delivery.clear.Given as goal

abbrev pub invariant-loop-place : goal.invariant-loop-place
invariant-loop-place l =
    l.sheet ≡ written (place_of (length l.self.book.orders.now) l.self.intervals l.self.interval) (of_interval l.self.book.orders.now l.self.book.blocks.now l.self.interval) (λ k. 0) l.place l.initial.sheet
