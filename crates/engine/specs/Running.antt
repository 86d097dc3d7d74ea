-- The end of calls that were carried out by their numbers.
use Rattle.std.specs.Prelude.{◌≡◌, true, false, Ok, Err, Result}
use Rattle.engine.specs.declared.day.Day.{Day}
use Rattle.engine.specs.declared.book.Passed.{Passed}
use Rattle.engine.specs.declared.running.Running.{Running}
use Rattle.engine.specs.Marks.{any_out}

-- the book and the day where nothing is out, or all back where something is
abbrev pub Finishes : Running → Result (Passed × Day) Running → Type 0
Finishes r (Ok (book, day)) = (any_out r.day ≡ false) × (book ≡ r.book) × (day ≡ r.day)
Finishes r (Err back) = (any_out r.day ≡ true) × (back ≡ r)
