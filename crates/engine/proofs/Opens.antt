-- What is open of a record, and one turn of the loop that adds it up.
use Rattle.std.proofs.Common.{◌≡◌, ℕ, ◌+◌, ◌<◌, ◌≤◌, cond, ◌||◌, ◌⊎◌, List, length, get_or, drop, ℤ, pos, ◌+ℤ◌, sym, ap, ◌∙◌, ⊎_elim, arith}
use Rattle.std.proofs.lemmas.List.{at_drop_more, length-take-le}
use Rattle.market.specs.declared.records.Interval.{Interval}
use Rattle.market.specs.declared.records.Mark.{Mark}
use Rattle.market.specs.declared.records.Mark.TheVariants.{Out, Noted}
use Rattle.market.specs.Blank.{fresh}
use Rattle.entries.specs.Amounts.{worth}
use Rattle.engine.specs.declared.day.Day.{Day}
use Rattle.engine.specs.Days.{records, conditions_in}
use Rattle.engine.specs.Marks.{is_out, is_noted}
use Rattle.engine.specs.Booking.{open_part, open_sum}

pub open_is : (minutes : ℤ) (x : Interval) (y : ℤ) → (x.mark ≡ Out) ⊎ (x.mark ≡ Noted) → y ≡ worth (conditions_in minutes x) x.remainder → y ≡ open_part minutes x
open_is minutes x y marked e =
    let part = λ (m : Mark). cond (is_out m || is_noted m) (worth (conditions_in minutes x) x.remainder) (pos 0) in
    e ∙ ⊎_elim (λ out. ap part (sym out)) (λ noted. ap part (sym noted)) marked

-- a day has as many records as intervals
pub count_records : (d : Day) → length (records d) ≡ d.count
count_records d =
    let most = d.sound.2 in
    let all = d.sound.3 in
    length-take-le d.count d.intervals (omega arith)

pub few_records : (d : Day) → length (records d) ≤ 100
few_records d =
    let most = d.sound.2 in
    let n = count_records d in
    omega arith

pub open_more : (minutes : ℤ) (xs : List Interval) (i : ℕ) → i < length xs → open_sum minutes (drop i xs) ≡ open_part minutes (get_or xs i fresh) +ℤ open_sum minutes (drop (i + 1) xs)
open_more minutes xs i h = at_drop_more (open_sum minutes) xs i fresh h
