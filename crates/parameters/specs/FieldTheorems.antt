-- Request a) of document 02, "Say which field was wrong.": what the number of a refused set tells of its fields, and a set that is refused by each
-- number. What `FieldTold` states is proved as `field_told` in proofs/Fields.antt, and so the others.
use Rattle.std.specs.Prelude.{ℕ, ◌<◌, ◌≡◌, Bool, true, false, List, [], ◌∷◌, ◌↔◌, pos, neg_ℤ}
use Rattle.units.specs.Refusals.{bad_a, bad_e2, bad_lat0, bad_lon0, bad_false_easting, bad_false_northing, OneOf}
use Rattle.parameters.specs.declared.Parameters.{Parameters}
use Rattle.parameters.specs.ParameterSet.{accepted_a, accepted_e2, accepted_lat0, accepted_lon0, accepted_false, set_refusal, set_of, etrs_laea}

-- the fields of the table, in its order
pub data Field : Type 0 where
  semi_major_axis : Field
  eccentricity_squared : Field
  latitude_of_origin : Field
  longitude_of_origin : Field
  false_easting : Field
  false_northing : Field

-- the refusal number of a field
abbrev pub number_of : Field → ℕ
number_of semi_major_axis = bad_a
number_of eccentricity_squared = bad_e2
number_of latitude_of_origin = bad_lat0
number_of longitude_of_origin = bad_lon0
number_of false_easting = bad_false_easting
number_of false_northing = bad_false_northing

-- whether this field of a set is accepted
abbrev pub accepted_field : Parameters → Field → Bool
accepted_field p semi_major_axis = accepted_a p.a
accepted_field p eccentricity_squared = accepted_e2 p.e2
accepted_field p latitude_of_origin = accepted_lat0 p.lat0
accepted_field p longitude_of_origin = accepted_lon0 p.lon0
accepted_field p false_easting = accepted_false p.false_easting
accepted_field p false_northing = accepted_false p.false_northing

-- "the first that applies in this order": a field's number is told exactly where that field is not accepted and all before it are
abbrev pub FieldTold : Type 0
FieldTold =
    (p : Parameters) (f : Field) →
    (set_refusal p ≡ number_of f)
    ↔ ((accepted_field p f ≡ false) × ((g : Field) → number_of g < number_of f → accepted_field p g ≡ true))

-- 0 exactly where every field is accepted
abbrev pub SetAccepted : Type 0
SetAccepted = (p : Parameters) → (set_refusal p ≡ 0) ↔ ((f : Field) → accepted_field p f ≡ true)

-- the refusals of a set; there is no other
abbrev pub set_refusals : List ℕ
set_refusals = bad_a ∷ bad_e2 ∷ bad_lat0 ∷ bad_lon0 ∷ bad_false_easting ∷ bad_false_northing ∷ []

abbrev pub SetNumbers : Type 0
SetNumbers = (p : Parameters) → OneOf (0 ∷ set_refusals) (set_refusal p)

-- ---- witnesses: an accepted set, one refused by each number, and one of which no field is accepted

-- ETRS-LAEA with this field one past its limit
abbrev pub wrong : Field → Parameters
wrong semi_major_axis = set_of (pos 99_999_999) (pos 6_694_380) (pos 187_200_000) (pos 36_000_000) (pos 432_100_000) (pos 321_000_000)
wrong eccentricity_squared = set_of (pos 637_813_700) (pos 10_000_001) (pos 187_200_000) (pos 36_000_000) (pos 432_100_000) (pos 321_000_000)
wrong latitude_of_origin = set_of (pos 637_813_700) (pos 6_694_380) (pos 306_000_001) (pos 36_000_000) (pos 432_100_000) (pos 321_000_000)
wrong longitude_of_origin = set_of (pos 637_813_700) (pos 6_694_380) (pos 187_200_000) (neg_ℤ (pos 648_000_000)) (pos 432_100_000) (pos 321_000_000)
wrong false_easting = set_of (pos 637_813_700) (pos 6_694_380) (pos 187_200_000) (pos 36_000_000) (pos 1_000_000_001) (pos 321_000_000)
wrong false_northing = set_of (pos 637_813_700) (pos 6_694_380) (pos 187_200_000) (pos 36_000_000) (pos 432_100_000) (neg_ℤ (pos 1_000_000_001))

abbrev pub all_wrong : Parameters
all_wrong =
    set_of (pos 99_999_999) (pos 10_000_001) (pos 306_000_001) (neg_ℤ (pos 648_000_000)) (pos 1_000_000_001) (neg_ℤ (pos 1_000_000_001))

abbrev pub FieldWitnesses : Type 0
FieldWitnesses =
    (set_refusal etrs_laea ≡ 0)
    × ((f : Field) → set_refusal (wrong f) ≡ number_of f)
    × ((f : Field) → accepted_field all_wrong f ≡ false)
    × (set_refusal all_wrong ≡ bad_a)
