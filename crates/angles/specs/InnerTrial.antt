-- Inner: what one test at an angle tells of the greatest angle.
use Rattle.std.specs.Prelude.{◌≡◌, ℕ, Option, Some, None}
use Rattle.integers.specs.Greatest.{greatest}
use Rattle.units.specs.Units.{right_angle}
use Rattle.angles.specs.Angle.{under}

-- A settled angle is the greatest one of the definition.
abbrev pub Settles : ℕ → ℕ → Option ℕ → Type 0
Settles p q (Some θ) = greatest (under p q) right_angle ≡ θ
Settles p q None = Unit {0}
