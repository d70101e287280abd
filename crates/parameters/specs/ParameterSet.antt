-- Document 01, "Parameter set and its constants": which sets are accepted, and ETRS-LAEA.
-- The limits are those of the associated constants of `Parameters`: the proofs of `Parameters::check` and `Parameters::etrs_laea` hold the two together.
use Rattle.std.specs.Prelude.{ℕ, Bool, ◌||◌, ◌&&◌, ℤ, pos, neg_ℤ}
use Rattle.std.specs.Int.Signed.{lt_z, le_z}
use Rattle.units.specs.Units.{right_angle, half_turn}
use Rattle.units.specs.Spans.{within, same, inside}
use Rattle.units.specs.Refusals.{bad_a, bad_e2, bad_lat0, bad_lon0, bad_false_easting, bad_false_northing, unless}
use Rattle.latitudes.specs.declared.Geodetic.{Geodetic}
use Rattle.latitudes.specs.Latitude.{latitude}
use Rattle.parameters.specs.declared.Parameters.{Parameters}

-- a row of the table for each field
unfoldable pub accepted_a : ℤ → Bool
accepted_a a = within (pos 100_000_000) (pos 1_000_000_000) a

unfoldable pub accepted_e2 : ℤ → Bool
accepted_e2 e2 = within (pos 0) (pos 10_000_000) e2

-- "exactly ±324,000,000"
unfoldable pub polar : Geodetic → Bool
polar φ0 = same φ0.0 (pos right_angle) || same φ0.0 (neg_ℤ (pos right_angle))

-- "−306,000,000 to 306,000,000 (85°), or exactly ±324,000,000"
unfoldable pub accepted_lat0 : Geodetic → Bool
accepted_lat0 φ0 = inside 306_000_000 φ0.0 || polar φ0

-- "above −648,000,000, at most 648,000,000"
unfoldable pub accepted_lon0 : ℤ → Bool
accepted_lon0 lon0 = lt_z (neg_ℤ (pos half_turn)) lon0 && le_z lon0 (pos half_turn)

-- FE and FN
unfoldable pub accepted_false : ℤ → Bool
accepted_false z = inside 1_000_000_000 z

-- "the first that applies in this order"; 0 is none: the set is accepted
unfoldable pub set_refusal : Parameters → ℕ
set_refusal p =
    unless (accepted_a p.a) bad_a
    (unless (accepted_e2 p.e2) bad_e2
    (unless (accepted_lat0 p.lat0) bad_lat0
    (unless (accepted_lon0 p.lon0) bad_lon0
    (unless (accepted_false p.false_easting) bad_false_easting
    (unless (accepted_false p.false_northing) bad_false_northing 0)))))

-- a set by its fields, in the table's order
abbrev pub set_of : ℤ → ℤ → ℤ → ℤ → ℤ → ℤ → Parameters
set_of a e2 φ0 lon0 FE FN =
    record { a = a; e2 = e2; lat0 = latitude φ0; lon0 = lon0; false_easting = FE; false_northing = FN }

-- "a 637,813,700; e2 6,694,380; φ0 187,200,000; lon0 36,000,000; FE 432,100,000; FN 321,000,000"
abbrev pub etrs_laea : Parameters
etrs_laea = set_of (pos 637_813_700) (pos 6_694_380) (pos 187_200_000) (pos 36_000_000) (pos 432_100_000) (pos 321_000_000)
