-- Demand 3 is not empty: positions that meet its conditions, with a set of each aspect and with a sphere. What `ConditionsMet` states is proved as
-- `conditions_met`.
use Rattle.std.specs.Prelude.{ℤ, pos, neg_ℤ, ◌*ℤ◌}
use Rattle.units.specs.Units.{degree}
use Rattle.latitudes.specs.declared.Geodetic.{Geodetic}
use Rattle.latitudes.specs.Latitude.{latitude}
use Rattle.parameters.specs.declared.Parameters.{Parameters}
use Rattle.parameters.specs.ParameterSet.{set_of, etrs_laea}
use Rattle.round_trip.specs.RoundTrip.{Conditions}

-- so many degrees, in mas
abbrev pub mas : ℤ → ℤ
mas n = n *ℤ pos degree

-- a set with its centre in degrees, without a false origin
abbrev pub centred : ℤ → ℤ → ℤ → ℤ → Parameters
centred a e2 φ0 lon0 = set_of a e2 (mas φ0) (mas lon0) (pos 0) (pos 0)

-- the ellipsoid of ETRS-LAEA with other centres: 20° E on the Equator, and the poles
abbrev pub equatorial : Parameters
equatorial = centred etrs_laea.a etrs_laea.e2 (pos 0) (pos 20)

abbrev pub north_polar : Parameters
north_polar = centred etrs_laea.a etrs_laea.e2 (pos 90) (pos 10)

abbrev pub south_polar : Parameters
south_polar = centred etrs_laea.a etrs_laea.e2 (neg_ℤ (pos 90)) (pos 0)

-- a sphere with its centre at 40° N, 100° W
abbrev pub oblique_sphere : Parameters
oblique_sphere = centred (pos 600_000_000) (pos 0) (pos 40) (neg_ℤ (pos 100))

-- A statement about a set and a position, at each of the examples; the first is that of document 001.
abbrev pub AtEach : (Parameters → Geodetic → ℤ → Type 0) → Type 0
AtEach Holds =
    Holds etrs_laea (latitude (mas (pos 50))) (mas (pos 5))
    × Holds equatorial (latitude (mas (neg_ℤ (pos 15)))) (mas (pos 30))
    × Holds north_polar (latitude (mas (pos 75))) (mas (pos 100))
    × Holds south_polar (latitude (mas (neg_ℤ (pos 60)))) (mas (neg_ℤ (pos 60)))
    × Holds oblique_sphere (latitude (mas (pos 30))) (mas (neg_ℤ (pos 90)))

abbrev pub ConditionsMet : Type 0
ConditionsMet = AtEach Conditions
