-- What holds of every day, over its fields.
use Rattle.std.specs.Prelude.{◌≡◌, ℕ, ◌≤◌, Bool, true, ◌&&◌, List, length, ℤ, All}
use Rattle.market.specs.declared.records.Interval.{Interval}
use Rattle.market.specs.Bounds.{minutes_ok, price_ok, net_ok}

-- a record whose price and net position are within the bounds of entry
abbrev pub terms_lawful : Interval → Bool
terms_lawful x = price_ok x.price && net_ok x.net x.rounded

-- lawful minutes, 1 to 100 intervals, and a table of a hundred records with lawful terms
abbrev pub Sound : ℤ → ℕ → List Interval → Type 0
Sound minutes count xs =
    (minutes_ok minutes ≡ true) × (1 ≤ count) × (count ≤ 100) × (length xs ≡ 100)
    × All (λ x. terms_lawful x ≡ true) xs
