-- Document 01, "Degrees and metres": a double in whole units, and a whole number of units as a double.
-- The whole units are milliarcseconds (mas), centimetres (cm) and, for document 02, e), nanowatts; `unit` says how many make one degree, one metre or
-- one milliwatt.
use Rattle.std.specs.Prelude.{ℕ, ◌*◌, ℤ, pos, Float}
use Rattle.std.specs.Float.{nan, inf, fin, binary64}
use Rattle.std.specs.Float.Ieee.{up, down, div, of_int}
use Rattle.integers.specs.Near.{nearest, signed}

-- "near(value · 3,600,000) of the double's exact value", "near(value · 100)", "near(value · 1,000,000)". The size of `fin s m e` is m · up e / down e.
-- NaN and the infinities are refused before.
unfoldable pub whole_of : ℕ → Float → ℤ
whole_of unit nan = pos 0
whole_of unit (inf s) = pos 0
whole_of unit (fin s m e) = signed s (nearest (m * up e * unit) (down e))

-- "the whole number as f64, divided once by 3,600,000 or 100"
unfoldable pub float_of : ℕ → ℤ → Float
float_of unit n = div binary64 (of_int binary64 n) (of_int binary64 (pos unit))
