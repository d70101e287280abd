-- The angle of two numbers, document 01, "Sine and angle".
use Rattle.std.specs.Prelude.{ℕ, Bool, cond, ◌&&◌, eqb, pos, ◌*ℤ◌}
use Rattle.std.specs.Int.Signed.{le_z}
use Rattle.integers.specs.Greatest.{greatest}
use Rattle.units.specs.Units.{right_angle}
use Rattle.trig.specs.Sine.{sine, cosine}

-- "sine(θ) · p is not above cosine(θ) · q"
unfoldable pub under : ℕ → ℕ → ℕ → Bool
under p q θ = le_z (sine (pos θ) *ℤ pos p) (cosine (pos θ) *ℤ pos q)

-- "angle(p, q), p and q not negative: the greatest whole θ from 0 to 90° for which sine(θ) · p is not above cosine(θ) · q;
-- angle(0, 0) = 0 by exception."
unfoldable pub angle : ℕ → ℕ → ℕ
angle p q = cond (eqb p 0 && eqb q 0) 0 (greatest (under p q) right_angle)
