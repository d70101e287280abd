-- What the number of a refused set tells of its fields: `set_refusal` is the chain over the list of the fields, whose numbers ascend.
-- Assumes nothing.
use mathlib.Core.Path.{◌≡◌, refl}
use mathlib.Core.Bool.{false}
use mathlib.Core.List.{List, [], ◌∷◌}
use mathlib.Core.Logic.{inl, inr}
use native.Mathlib.Omega.{arith}
use Prim.Native.Nat.{ℕ}
use lib.Dec.{T, lit≤}
use Rattle.units.specs.Spans.{within, same}
use Rattle.units.proofs.Chains.{Gives, chain, all_among, widened}
use Rattle.units.proofs.FirstFailed.{Among, Ascending, chained, later_above, first_failed, none_failed}
use Rattle.parameters.specs.declared.Parameters.{Parameters}
use Rattle.parameters.specs.ParameterSet.{polar, accepted_a, accepted_e2, accepted_lat0, accepted_lon0, accepted_false, set_refusal, etrs_laea}
use Rattle.parameters.specs.FieldTheorems.{Field, semi_major_axis, eccentricity_squared, latitude_of_origin, longitude_of_origin}
use Rattle.parameters.specs.FieldTheorems.{false_easting, false_northing, number_of, accepted_field, FieldTold, SetAccepted, set_refusals, SetNumbers}
use Rattle.parameters.specs.FieldTheorems.{wrong, all_wrong, FieldWitnesses}

abbrev fields : List Field
fields = semi_major_axis ∷ eccentricity_squared ∷ latitude_of_origin ∷ longitude_of_origin ∷ false_easting ∷ false_northing ∷ []

-- every field is in the list
listed : (f : Field) → Among fields f
listed semi_major_axis = inl refl
listed eccentricity_squared = inr (inl refl)
listed latitude_of_origin = inr (inr (inl refl))
listed longitude_of_origin = inr (inr (inr (inl refl)))
listed false_easting = inr (inr (inr (inr (inl refl))))
listed false_northing = inr (inr (inr (inr (inr (inl refl)))))

ascending : Ascending number_of 0 fields
ascending = (lit≤ tt, (lit≤ tt, (lit≤ tt, (lit≤ tt, (lit≤ tt, (lit≤ tt, tt))))))

set_chained : (p : Parameters) → set_refusal p ≡ chained number_of (accepted_field p) fields
unfolding set_refusal
set_chained p = refl

pub field_told : FieldTold
field_told p f =
    let told = first_failed number_of (accepted_field p) 0 fields ascending f (listed f) in
    rw (set_chained p)
    (λ e. ((told.0 e).0, λ g. (told.0 e).1 g (listed g)), λ first. told.1 (first.0, λ g i. first.1 g))

pub set_accepted : SetAccepted
set_accepted p =
    let none = none_failed number_of (accepted_field p) 0 fields ascending in
    rw (set_chained p)
    (λ e f. none.0 e f (listed f), λ all. none.1 (λ f i. all f))

-- no field's number is 0, which is none
pub not_none : (f : Field) → number_of f ≡ 0 → ⊥
not_none f e = omega (arith, later_above number_of 0 fields ascending f (listed f))

pub set_numbers : SetNumbers
unfolding set_refusal
set_numbers p =
    let number : Gives (0 ∷ set_refusals) (set_refusal p) = search chain depth 40 in
    number.one

-- in a longer chain, by `search (chain, set_gives p)`
pub set_gives : (p : Parameters) {numbers : List ℕ} → T (all_among numbers (0 ∷ set_refusals)) → Gives numbers (set_refusal p)
set_gives p t = widened (0 ∷ set_refusals) (set_numbers p) t

-- ---- witnesses

pub etrs_accepted : set_refusal etrs_laea ≡ 0
unfolding set_refusal accepted_a accepted_e2 accepted_lat0 polar same accepted_lon0 accepted_false within
etrs_accepted = refl

pub wrong_refused : (f : Field) → set_refusal (wrong f) ≡ number_of f
unfolding set_refusal accepted_a accepted_e2 accepted_lat0 polar same accepted_lon0 accepted_false within
wrong_refused semi_major_axis = refl
wrong_refused eccentricity_squared = refl
wrong_refused latitude_of_origin = refl
wrong_refused longitude_of_origin = refl
wrong_refused false_easting = refl
wrong_refused false_northing = refl

none_accepted : (f : Field) → accepted_field all_wrong f ≡ false
unfolding accepted_a accepted_e2 accepted_lat0 polar same accepted_lon0 accepted_false within
none_accepted semi_major_axis = refl
none_accepted eccentricity_squared = refl
none_accepted latitude_of_origin = refl
none_accepted longitude_of_origin = refl
none_accepted false_easting = refl
none_accepted false_northing = refl

pub field_witnesses : FieldWitnesses
unfolding set_refusal accepted_a within
field_witnesses = (etrs_accepted, wrong_refused, none_accepted, refl)
