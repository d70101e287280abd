-- Document 01, "Refusal numbers" 2 and 3: which doubles are coordinates.
-- A limit is tested on the double itself, before rounding, by the comparisons of IEEE 754.
use Rattle.std.specs.Prelude.{Bool, true, false, not, ◌&&◌, ◌||◌, pos, Float}
use Rattle.std.specs.Float.{nan, inf, fin}
use Rattle.std.specs.Float.Ieee.{lt, neg}

-- refusal 2: "a coordinate is NaN or infinite"
unfoldable pub is_finite : Float → Bool
is_finite nan = false
is_finite (inf s) = false
is_finite (fin s m e) = true

-- refusal 3: x is below −limit or above limit. A NaN is neither.
unfoldable pub beyond : Float → Float → Bool
beyond limit x = lt x (neg limit) || lt limit x

-- neither refused: a NaN does not pass
unfoldable pub within_limit : Float → Float → Bool
within_limit limit x = is_finite x && not (beyond limit x)

-- 90 degrees, 45 · 2
abbrev pub latitude_limit : Float
latitude_limit = fin false 45 (pos 1)

-- 180 degrees, 45 · 2²
abbrev pub longitude_limit : Float
longitude_limit = fin false 45 (pos 2)

-- 50,000,000 metres, 390,625 · 2⁷
abbrev pub plane_limit_float : Float
plane_limit_float = fin false 390_625 (pos 7)
