-- How far an answer in whole numbers is from the one expected, and whether it is right: document 01, "Run and compared, within 1 m: the
-- example of document 001; within 2 m: document 004's examples".
use Rattle.std.specs.Prelude.{ℕ, ◌*◌, min, Bool, ◌&&◌, leb, eqb, ℤ, nat_abs, ◌-ℤ◌, Result, Ok, Err}
use Rattle.integers.specs.Near.{nearest}
use Rattle.units.specs.Units.{unit}
use Rattle.units.specs.declared.refusals.Refusal.{Refusal}
use Rattle.units.specs.Refusals.{number}
use Rattle.units.specs.Answers.{Told, accepted, refused}
use Rattle.gaps.specs.declared.Gaps.{Gaps}
use Rattle.gaps.specs.declared.Told.{Told as GivenTold}

-- what an answer tells: its two values, or its refusal number
abbrev pub told : Result (ℤ × ℤ) Refusal → Told
told (Ok values) = accepted values.0 values.1
told (Err refusal) = refused (number refusal)

-- what is told, by its three numbers
abbrev pub told_of : GivenTold → Told
told_of given = record { refusal = given.refusal; first = given.first; second = given.second }

-- the sizes of the differences, in the answers' own units
abbrev pub gaps_of : Told → Told → Gaps
gaps_of found right =
    record { first = nat_abs (found.first -ℤ right.first); second = nat_abs (found.second -ℤ right.second) }

-- The same refusal number, or none, and neither value off by more than `most`.
abbrev pub is_right : Told → Told → Gaps → ℕ → Bool
is_right found right off most =
    eqb found.refusal right.refusal && (leb off.first most && leb off.second most)

-- ---- on the ground

-- One radian in mas: "Each becomes mas by near(k·206,264,806/U)."
abbrev pub radian : ℕ
radian = 206_264_806

-- Sizes are cut at this number, above every radius and every gap between two positions: nothing that is measured is cut.
abbrev pub cap : ℕ
cap = 2_000_000_000

abbrev pub capped : ℕ → ℕ
capped n = min n cap

-- near(x·y/d)
abbrev pub part : ℕ → ℕ → ℕ → ℕ
part x y d = nearest (capped x * capped y) d

-- A gap of latitude is a part of a great circle, and one of longitude of the parallel of a latitude with this cosine: in cm, as the radius is.
abbrev pub on_ground : ℤ → ℤ → Gaps → Gaps
on_ground radius cosine off =
    record {
      first = part (nat_abs radius) off.first radian;
      second = part (nat_abs cosine) (part (nat_abs radius) off.second radian) unit;
    }
