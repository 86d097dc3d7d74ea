use Rattle.std.proofs.Common.{◌≡◌, ◌*◌, drop, ◌+ℤ◌}
use Rattle.market.specs.Signed.{Within}
use Rattle.engine.specs.Days.{records}
use Rattle.engine.specs.Booking.{open_sum, open_worth}
use Rattle.engine.proofs.day.Day.open_worth.Given as goal

abbrev pub invariant-loop-record : goal.invariant-loop-record
invariant-loop-record l =
    ((l.sum +ℤ open_sum l.self.minutes (drop l.record-index (records l.self))) ≡ open_worth l.self)
    × Within (6871947673600000 * l.record-index) l.sum
