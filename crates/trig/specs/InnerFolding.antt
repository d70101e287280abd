-- Inner: an angle folded to one from 0 to 90°.
use Rattle.std.specs.Prelude.{◌≡◌, Bool, ℕ, ◌-◌, ◌≤◌, ℤ}
use Rattle.integers.specs.Near.{signed}
use Rattle.units.specs.Units.{right_angle}
use Rattle.trig.specs.Sine.{first_quarter, sine, cosine}

-- θ has the sine and the cosine of `folded`, with these signs.
pub record Folds (θ : ℤ) (folded : ℕ) (below behind : Bool) : Type 0 where
  pub inside : folded ≤ right_angle
  pub sine_is : sine θ ≡ signed below (first_quarter folded)
  pub cosine_is : cosine θ ≡ signed behind (first_quarter (right_angle - folded))
