-- A day: its records, and what the calls make of them.
use Rattle.std.specs.Prelude.{◌≡◌, ℕ, ◌-◌, ◌/◌, cond, List, take, replicate, ℤ, Some, None, Option, slice_index_or, slice_set, unsigned_abs}
use Rattle.market.specs.declared.records.Interval.{Interval}
use Rattle.market.specs.declared.records.Mark.{Mark}
use Rattle.market.specs.Blank.{fresh}
use Rattle.market.specs.Bounds.{in_day}
use Rattle.entries.specs.Amounts.{Conditions}
use Rattle.engine.specs.declared.day.Day.{Day}

-- the place in the table of the interval numbered i, from 1
abbrev pub place_of : ℤ → ℕ
place_of i = unsigned_abs i - 1

-- the record of the interval numbered i
abbrev pub record_of : Day → ℤ → Interval
record_of d i = slice_index_or d.intervals (place_of i) fresh

-- the records of the day's own intervals
abbrev pub records : Day → List Interval
records d = take d.count d.intervals

-- the record of an interval of the day, if it has that interval
abbrev pub shown : Day → ℤ → Option Interval
shown d i = cond (in_day d.count i) (Some (record_of d i)) None

-- a record with other terms
abbrev pub with_terms : Interval → ℤ → ℤ → ℤ → Interval
with_terms x price net rounded = record { price = price; net = net; rounded = rounded; mark = x.mark; remainder = x.remainder }

-- the day d with the record x at a place is the day d'
pub record Recorded (d : Day) (place : ℕ) (x : Interval) (d' : Day) : Type 0 where
  pub minutes : d'.minutes ≡ d.minutes
  pub count : d'.count ≡ d.count
  pub intervals : d'.intervals ≡ slice_set d.intervals place x

-- a day of so many intervals in which nothing is set
pub record Fresh (minutes : ℤ) (count : ℕ) (d : Day) : Type 0 where
  pub minutes_are : d.minutes ≡ minutes
  pub count_is : d.count ≡ count
  pub intervals_are : d.intervals ≡ replicate 100 fresh

-- a record with another mark and another remainder
abbrev pub with_state : Interval → Mark → ℤ → Interval
with_state x m z = record { price = x.price; net = x.net; rounded = x.rounded; mark = m; remainder = z }

-- the quarters of an hour in an interval of so many minutes
abbrev pub quarters_of : ℤ → ℕ
quarters_of minutes = unsigned_abs minutes / 15

-- what a record is settled by, in a day of intervals of so many minutes
abbrev pub conditions_in : ℤ → Interval → Conditions
conditions_in minutes x = record { price = x.price; rounded = x.rounded; quarters = quarters_of minutes }

-- what the interval numbered i is settled by
abbrev pub conditions_of : Day → ℤ → Conditions
conditions_of d i = conditions_in d.minutes (record_of d i)
