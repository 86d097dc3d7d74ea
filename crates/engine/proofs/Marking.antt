-- Comparing marks, as the code does it.
use Rattle.std.proofs.Common.{◌≡◌, ℤ, Some, refl, ap, ◌∙◌}
use denote.Enum.Bare.{sameb}
use Rattle.market.specs.contracts.records.Mark.{the_type}
use Rattle.market.specs.declared.records.Mark.{Mark}
use Rattle.market.specs.declared.records.Mark.TheVariants.{Unsettled, Out, Noted, Closed}
use Rattle.market.specs.declared.records.Interval.{Interval}
use Rattle.engine.specs.declared.day.Day.{Day}
use Rattle.engine.specs.Days.{record_of, shown}
use Rattle.engine.specs.Marks.{same_mark}
use Rattle.engine.proofs.Shown.{shown_some}

-- two marks compare equal exactly where they are the same
same_is : (a b : Mark) → sameb the_type a b ≡ same_mark b a
same_is Unsettled Unsettled = refl
same_is Unsettled Out = refl
same_is Unsettled Noted = refl
same_is Unsettled Closed = refl
same_is Out Unsettled = refl
same_is Out Out = refl
same_is Out Noted = refl
same_is Out Closed = refl
same_is Noted Unsettled = refl
same_is Noted Out = refl
same_is Noted Noted = refl
same_is Noted Closed = refl
same_is Closed Unsettled = refl
same_is Closed Out = refl
same_is Closed Noted = refl
same_is Closed Closed = refl

-- so is the mark of a record that the day shows
pub shows_mark : (d : Day) (i : ℤ) (x : Interval) (m : Mark) → Some x ≡ shown d i → sameb the_type x.mark m ≡ same_mark m (record_of d i).mark
shows_mark d i x m e = same_is x.mark m ∙ ap (λ (y : Interval). same_mark m y.mark) (shown_some d i x e).1
