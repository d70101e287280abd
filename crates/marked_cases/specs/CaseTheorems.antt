-- Document 01, "Points on both sides": the cases marked P, as one table, over the definitions that the contracts cite.
use Rattle.std.specs.Prelude.{◌≡◌, true, false, List, [], ◌∷◌, ℤ, pos, neg_ℤ}
use Rattle.std.specs.Float.{fin}
use Rattle.integers.specs.Near.{near}
use Rattle.units.specs.Units.{right_angle, degree, metre}
use Rattle.floats.specs.Conversion.{whole_of}
use Rattle.sine_table.specs.Table.{entry}
use Rattle.trig.specs.Sine.{sine}
use Rattle.angles.specs.Angle.{angle}
use Rattle.latitudes.specs.Latitude.{latitude}
use Rattle.parameters.specs.declared.Parameters.{Parameters}
use Rattle.parameters.specs.ParameterSet.{set_of}
use Rattle.azimuthal_forward.specs.Answer.{PlaneAnswer, Plane, forward_of}

-- a number, or an answer of the forward steps, and what it is
infix 40 ◌is◌ ◌goes_to◌
pub data Case : Type 0 where
  ◌is◌ : ℤ → ℤ → Case
  ◌goes_to◌ : PlaneAnswer → PlaneAnswer → Case

-- every case of the list holds
abbrev pub All : List Case → Type 0
All [] = Unit {0}
All ((a is b) ∷ cases) = (a ≡ b) × All cases
All ((a goes_to b) ∷ cases) = (a ≡ b) × All cases

-- "the sphere a = 600,000,000 with centre (0, 0) and no false origin"
abbrev pub sphere : Parameters
sphere = set_of (pos 600_000_000) (pos 0) (pos 0) (pos 0) (pos 0) (pos 0)

-- A double is its sign (true: negative), m and e, and its size m · 2^e: 1/256 is 1 · 2^−8.
abbrev pub P : List Case
P =
    (near (pos 5) 2 is pos 3)
    ∷ (near (neg_ℤ (pos 5)) 2 is neg_ℤ (pos 3))
    ∷ (pos (entry 1) is pos 290_888)
    ∷ (pos (entry 5399) is pos 999_999_958)
    ∷ (sine (pos 1) is pos 5)
    ∷ (sine (neg_ℤ (pos 108_000_000)) is neg_ℤ (pos 500_000_000))
    ∷ (pos (angle 7 7) is pos 162_000_000)
    ∷ (pos (angle 0 1) is pos 324_000_000)
    ∷ (pos (angle 0 0) is pos 0)
    ∷ (whole_of degree (fin false 1 (neg_ℤ (pos 8))) is pos 14_063)
    ∷ (whole_of degree (fin true 1 (neg_ℤ (pos 8))) is neg_ℤ (pos 14_063))
    ∷ (whole_of metre (fin false 1 (neg_ℤ (pos 3))) is pos 13)
    ∷ (forward_of sphere (latitude (pos 0)) (pos right_angle) goes_to Plane (pos 848_528_138) (pos 0))
    ∷ []

-- "Proved together as a single table, marked P"
abbrev pub AllMarked : Type 0
AllMarked = All P
