-- The forward steps in two stages, with the root H between them, so that the roots of two positions can be taken together. Inner: no customer's
-- contract cites this.
use Rattle.std.specs.Prelude.{ℕ, ◌≤◌, ℤ, pos, nat_abs, ◌+ℤ◌, ◌-ℤ◌, ◌*ℤ◌, Result, Ok, Err}
use Rattle.integers.specs.Near.{near}
use Rattle.units.specs.declared.refusals.Refusal.{Refusal}
use Rattle.units.specs.Refusals.{number, out_of_limits, unless}
use Rattle.units.specs.Answers.{answered}
use Rattle.latitudes.specs.declared.Geodetic.{Geodetic}
use Rattle.parameters.specs.declared.Parameters.{Parameters}
use Rattle.constants.specs.declared.Constants.{Constants}
use Rattle.constants.specs.Derived.{constants_of}
use Rattle.azimuthal_forward.specs.declared.Direction.{Direction}
use Rattle.azimuthal_forward.specs.declared.GeodeticPosition.{GeodeticPosition}
use Rattle.azimuthal_forward.specs.Steps.{direction_of}
use Rattle.azimuthal_forward.specs.Answer.{on_globe, forward_far, PlaneAnswer, Plane, Refused, forward_of}

-- What the steps before the root give: 3, 4 or 0, and the direction.
pub record BeforeRoot : Type 0 where
  pub refusal : ℕ
  pub direction : Direction

-- a refused position: its number, and the direction of the centre
abbrev pub refused_before : ℕ → BeforeRoot
refused_before number = record { refusal = number; direction = record { u = pos 0; w = pos 0; g = pos 2_000_000_000 } }

-- what the code gives: of a refused position the direction of the centre, so that its root can be taken with another's
abbrev pub before_answer : Result Direction Refusal → BeforeRoot
before_answer (Ok direction) = record { refusal = 0; direction = direction }
before_answer (Err refusal) = refused_before (number refusal)

-- the steps up to the nearness: an accepted position has its own direction
unfoldable pub before_root : Parameters → Geodetic → ℤ → BeforeRoot
before_root p φ lon =
    answered refused_before (unless (on_globe φ lon) out_of_limits (forward_far p φ lon))
    (record { refusal = 0; direction = direction_of (constants_of p) φ (lon -ℤ p.lon0) })

-- What the steps after the root are handed: a direction and a root of these sizes.
pub record AfterRoot (d : Direction) (h : ℕ) : Type 0 where
  pub u_size : nat_abs d.u ≤ 2_000_000_000
  pub w_size : nat_abs d.w ≤ 2_000_000_000
  pub h_least : 100_000_000 ≤ h
  pub h_most : h ≤ 1_500_000_000

-- "E = FE + near(RD·u/H); N = FN + near(RN·w/H)", where the position is not refused
unfoldable pub after_root : Parameters → Constants → BeforeRoot → ℕ → PlaneAnswer
after_root p k before h =
    answered Refused before.refusal
    (Plane
    (p.false_easting +ℤ near (k.rd *ℤ before.direction.u) h)
    (p.false_northing +ℤ near (k.rn *ℤ before.direction.w) h))

-- the forward answer for a position
abbrev pub forward_at : Parameters → GeodeticPosition → PlaneAnswer
forward_at p position = forward_of p position.latitude position.longitude
