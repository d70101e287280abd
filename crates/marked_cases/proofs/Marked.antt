-- Table P holds. A case of near, of the sine or of a double is computed; an entry of T is one of the table's laws; an angle passes its test where the next
-- one fails; the sphere has a file of its own.
-- Assumes nothing.
use mathlib.Core.Path.{◌≡◌, refl, ap, ◌∙◌}
use mathlib.Core.Bool.{true, false}
use native.Mathlib.Omega.{arith}
use lib.IntN.{pos, neg_ℤ}
use lib.Ieee.{fin}
use lib.ListN.{drop}
use Rattle.integers.specs.Near.{near, nearest}
use Rattle.integers.proofs.Greatest.{greatest_here}
use Rattle.units.specs.Units.{right_angle, degree, metre}
use Rattle.floats.specs.Conversion.{whole_of}
use Rattle.sine_table.specs.Table.{entry}
use Rattle.sine_table.proofs.Laws.{entry_1, entry_5399}
use Rattle.trig.specs.Sine.{between, first_quarter, first_half, one_turn, sine, cosine}
use Rattle.angles.specs.Angle.{under, angle}
use Rattle.angles.proofs.Angles.{angle_none, angle_some, angle_edge}
use Rattle.marked_cases.specs.CaseTheorems.{All, P, AllMarked}
use Rattle.marked_cases.proofs.Sphere.{sphere_quarter}

roundings : (near (pos 5) 2 ≡ pos 3) × (near (neg_ℤ (pos 5)) 2 ≡ neg_ℤ (pos 3))
unfolding near nearest
roundings = (refl, refl)

sines : (sine (pos 1) ≡ pos 5) × (sine (neg_ℤ (pos 108_000_000)) ≡ neg_ℤ (pos 500_000_000))
unfolding nearest entry between first_quarter first_half one_turn sine
sines = (refl, refl)

-- where an angle passes its test, and where the next one fails
tests : (under 7 7 162_000_000 ≡ true) × (under 7 7 162_000_001 ≡ false) × (under 0 1 right_angle ≡ true)
unfolding nearest entry between first_quarter first_half one_turn sine cosine under
tests = (refl, refl, refl)

doubles :
    (whole_of degree (fin false 1 (neg_ℤ (pos 8))) ≡ pos 14_063)
    × (whole_of degree (fin true 1 (neg_ℤ (pos 8))) ≡ neg_ℤ (pos 14_063))
    × (whole_of metre (fin false 1 (neg_ℤ (pos 3))) ≡ pos 13)
unfolding whole_of nearest
doubles = (refl, refl, refl)

angles : (angle 7 7 ≡ 162_000_000) × (angle 0 1 ≡ right_angle) × (angle 0 0 ≡ 0)
angles = (
  angle_edge 7 7 162_000_000 (λ e. omega arith) (omega arith) tests.0 tests.1,
  angle_some 0 1 (λ e. omega arith) ∙ greatest_here (under 0 1) right_angle tests.2,
  angle_none 0 0 refl,
)

-- the table, in two parts: from the seventh case on, and all of it
angles_on : All (drop 6 P)
angles_on = (ap pos angles.0, (ap pos angles.1, (ap pos angles.2, (doubles.0, (doubles.1, (doubles.2, (sphere_quarter, tt)))))))

pub all_marked : AllMarked
all_marked = (roundings.0, (roundings.1, (ap pos entry_1, (ap pos entry_5399, (sines.0, (sines.1, angles_on))))))
