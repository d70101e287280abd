-- Sine and cosine, document 01, "Sine and angle", and document 02, g): of an angle in milliarcseconds (mas), counted in billionths.
use Rattle.std.specs.Prelude.{ℕ, suc, ◌+◌, ◌-◌, ◌*◌, ◌/◌, ◌%◌, min, cond, leb, eqb, ℤ, pos, negsuc, neg_ℤ, ◌-ℤ◌}
use Rattle.integers.specs.Near.{nearest}
use Rattle.units.specs.Units.{minute, right_angle, half_turn, full_turn}
use Rattle.sine_table.specs.Table.{entry}

-- the minutes from 0 to 90°
abbrev pub quarter_minutes : ℕ
quarter_minutes = 5_400

-- θ is "60,000k + r, r below 60,000", and f is r/60,000.
-- "(T[k+1] − T[k])·f + T[k]·84,616·f·(1 − f)/(2·10^12)", document 02, g), as one fraction over 2·10^12·60,000².
-- T rises and r is below 60,000, so that neither difference is cut at 0.
unfoldable pub fraction_numerator : ℕ → ℕ → ℕ
fraction_numerator k r =
    (entry (suc k) - entry k) * r * (2_000_000_000_000 * minute)
    + entry k * 84_616 * r * (minute - r)

abbrev pub fraction_denominator : ℕ
fraction_denominator = 2_000_000_000_000 * (minute * minute)

-- "For r above 0, sine becomes the smaller of T[k+1] and T[k] + near of one exact fraction", "for r = 0 it is T[k]."
-- What opens `between` opens the fraction too, by the line under the signature, so that the sine of a numeral computes.
unfoldable pub between : ℕ → ℕ → ℕ
unfolding fraction_numerator
between k r =
    cond (eqb r 0) (entry k) (min (entry (suc k)) (entry k + nearest (fraction_numerator k r) fraction_denominator))

-- sine(θ), 0 to 90°
unfoldable pub first_quarter : ℕ → ℕ
first_quarter θ = between (θ / minute) (θ % minute)

-- 0 to 180°: "by sine(180° − θ) = sine(θ)"
unfoldable pub first_half : ℕ → ℕ
first_half θ = cond (leb θ right_angle) (first_quarter θ) (first_quarter (half_turn - θ))

-- 0 to 360°: sine(θ) = −sine(360° − θ), by oddness and the period
unfoldable pub one_turn : ℕ → ℤ
one_turn θ = cond (leb θ half_turn) (pos (first_half θ)) (neg_ℤ (pos (first_half (full_turn - θ))))

-- Every angle: "by oddness" and "by the period of 360°"
unfoldable pub sine : ℤ → ℤ
sine (pos θ) = one_turn (θ % full_turn)
sine (negsuc θ) = neg_ℤ (one_turn (suc θ % full_turn))

-- "cosine(θ) = sine(90° − θ)"
unfoldable pub cosine : ℤ → ℤ
cosine θ = sine (pos right_angle -ℤ θ)
