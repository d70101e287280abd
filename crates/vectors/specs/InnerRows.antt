-- What a row asks, and when it ends in "ok".
use Rattle.std.specs.Prelude.{ℕ, Bool, ℤ}
use Rattle.units.specs.Answers.{Told}
use Rattle.latitudes.specs.Latitude.{latitude}
use Rattle.parameters.specs.declared.Parameters.{Parameters}
use Rattle.azimuthal_forward.specs.Answer.{forward_told}
use Rattle.azimuthal_inverse.specs.Answer.{inverse_told}
use Rattle.gaps.specs.InnerGaps.{gaps_of, on_ground, is_right}
use Rattle.vectors.specs.declared.rows.Question.{Question}
use Rattle.vectors.specs.declared.rows.Question.TheVariants.{Forward, Inverse}

-- what the call tells that is asked for: of a latitude and a longitude forward, of an easting and a northing inverse
abbrev pub told_by : Parameters → Question → Told
told_by p (Forward lat lon) = forward_told p (latitude lat) lon
told_by p (Inverse E N) = inverse_told p E N

-- an answer of which neither value is off by more than `most`, in its own unit
abbrev pub is_near : ℕ → Told → Told → Bool
is_near most found right = is_right found right (gaps_of found right) most

-- and by cm on the ground, on a sphere of this radius at a latitude with this cosine
abbrev pub is_near_on_ground : ℤ → ℤ → ℕ → Told → Told → Bool
is_near_on_ground radius cosine most found right = is_right found right (on_ground radius cosine (gaps_of found right)) most
