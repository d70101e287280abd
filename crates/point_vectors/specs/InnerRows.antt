-- What is asked of a point.
use Rattle.std.specs.Prelude.{Bool, true, false}
use Rattle.point_vectors.specs.declared.point_rows.Direction.{Direction}
use Rattle.point_vectors.specs.declared.point_rows.Direction.TheVariants.{Forward, Inverse}

-- from degrees to metres
abbrev pub is_forward : Direction → Bool
is_forward Forward = true
is_forward Inverse = false
