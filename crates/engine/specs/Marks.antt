-- The marks of an interval, and a remainder in hand.
use Rattle.std.specs.Prelude.{◌≡◌, Bool, true, false, ◌&&◌, [], ◌∷◌, ℤ, Ok, Err, Result}
use Rattle.std.specs.List.{list_any}
use Rattle.market.specs.declared.records.Interval.{Interval}
use Rattle.market.specs.declared.records.Mark.{Mark}
use Rattle.market.specs.declared.records.Mark.TheVariants.{Unsettled, Out, Noted, Closed}
use Rattle.market.specs.declared.refusal.Refusal.TheVariants.{NoInterval}
use Rattle.market.specs.Bounds.{same, in_day}
use Rattle.market.specs.First.{tests}
use Rattle.engine.specs.declared.day.Day.{Day}
use Rattle.engine.specs.declared.refusal.Refusal.{Refusal}
use Rattle.engine.specs.declared.refusal.Refusal.TheVariants.{Market, NotOut, NotNoted}
use Rattle.engine.specs.declared.remainder.Remainder.{Remainder}
use Rattle.engine.specs.Days.{Recorded, place_of, record_of, records}

-- nothing of the interval is settled
abbrev pub is_unsettled : Mark → Bool
is_unsettled Unsettled = true
is_unsettled Out = false
is_unsettled Noted = false
is_unsettled Closed = false

-- the remainder is in somebody's hand
abbrev pub is_out : Mark → Bool
is_out Unsettled = false
is_out Out = true
is_out Noted = false
is_out Closed = false

-- the remainder is noted
abbrev pub is_noted : Mark → Bool
is_noted Unsettled = false
is_noted Out = false
is_noted Noted = true
is_noted Closed = false

-- the remainder is booked
abbrev pub is_closed : Mark → Bool
is_closed Unsettled = false
is_closed Out = false
is_closed Noted = false
is_closed Closed = true

-- two marks are the same
abbrev pub same_mark : Mark → Mark → Bool
same_mark Unsettled m = is_unsettled m
same_mark Out m = is_out m
same_mark Noted m = is_noted m
same_mark Closed m = is_closed m

-- some interval of the day is out
abbrev pub any_out : Day → Bool
any_out d = list_any (λ x. is_out x.mark) (records d)

-- a record with another mark
abbrev pub with_mark : Interval → Mark → Interval
with_mark x m = record { price = x.price; net = x.net; rounded = x.rounded; mark = m; remainder = x.remainder }

-- the day shows the interval out with that remainder
abbrev pub shows_out : Day → ℤ → ℤ → Bool
shows_out d i steps = in_day d.count i && (is_out (record_of d i).mark && same (record_of d i).remainder steps)

-- the day d with the interval i marked m is the day d'
abbrev pub Marked : Day → ℤ → Mark → Day → Type 0
Marked d i m d' = Recorded d (place_of i) (with_mark (record_of d i) m) d'

-- 22: what noting a remainder of so many steps answers
abbrev pub note_answer : Day → ℤ → ℤ → Result Unit Refusal
note_answer d i steps = tests ((shows_out d i steps, NotOut) ∷ [])

-- 3, 23: what taking up answers
abbrev pub take_answer : Day → ℤ → Result Unit Refusal
take_answer d i = tests ((in_day d.count i, Market NoInterval) ∷ (is_noted (record_of d i).mark, NotNoted) ∷ [])

-- a call that hands a remainder of the interval i over, where it does not refuse
abbrev pub Hands : ℤ → Result Remainder Refusal → Type 0
Hands i (Ok t) = t.interval ≡ i
Hands i (Err e) = Unit {0}
