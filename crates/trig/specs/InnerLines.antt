-- Inner: how far the sine of an angle is from cheaper numbers. Where they decide a rounding, the sine itself is not asked for.
use Rattle.std.specs.Prelude.{ℕ}

-- from the straight line between its two minutes, rounded down
abbrev pub line_error : ℕ
line_error = 12

-- from the sine of the whole minute before it
abbrev pub minute_error : ℕ
minute_error = 295_000
