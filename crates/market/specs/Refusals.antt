use Rattle.std.specs.Prelude.{ℕ}
use Rattle.market.specs.declared.refusal.Refusal.{Refusal}
use Rattle.market.specs.declared.refusal.Refusal.TheVariants.{Minutes, Count, NoInterval, Price, NetPosition, Full, Quantity, Account, Percentage, Short, OutsideBounds, OverQuantity, ShouldBeEmpty, ShouldBeFull, BelowLeast, BlockPrice, Unbalanced}

-- the number by which a refusal is known
abbrev pub number_of : Refusal → ℕ
number_of Minutes = 1
number_of Count = 2
number_of NoInterval = 3
number_of Price = 4
number_of NetPosition = 5
number_of Full = 6
number_of Quantity = 7
number_of Account = 8
number_of Percentage = 10
number_of Short = 11
number_of (OutsideBounds entry) = 12
number_of (OverQuantity entry) = 13
number_of (ShouldBeEmpty entry) = 14
number_of (ShouldBeFull entry) = 15
number_of (BelowLeast entry) = 16
number_of (BlockPrice entry) = 17
number_of (Unbalanced interval) = 18

-- the entry or the interval that a refusal speaks of, or 0
abbrev pub place_of : Refusal → ℕ
place_of Minutes = 0
place_of Count = 0
place_of NoInterval = 0
place_of Price = 0
place_of NetPosition = 0
place_of Full = 0
place_of Quantity = 0
place_of Account = 0
place_of Percentage = 0
place_of Short = 0
place_of (OutsideBounds entry) = entry
place_of (OverQuantity entry) = entry
place_of (ShouldBeEmpty entry) = entry
place_of (ShouldBeFull entry) = entry
place_of (BelowLeast entry) = entry
place_of (BlockPrice entry) = entry
place_of (Unbalanced interval) = interval
