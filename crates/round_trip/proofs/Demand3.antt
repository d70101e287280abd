-- Demand 3: the round trip of every position at most 89° from the Equator whose nearness is at least U, with every accepted set.
-- The forward answer gives the shifts, the vectors' half of the proof shows that the inverse accepts them, and the angles' half bounds its answer.
-- Assumes nothing.
use mathlib.Core.Path.{◌≡◌, refl, sym, ap, ap₂, ◌∙◌, subst}
use mathlib.Core.Bool.{true, ◌&&◌}
use mathlib.Core.List.{[], ◌∷◌}
use Prim.Native.Nat.{ℕ, suc, ◌*◌, ◌<◌, ◌≤◌}
use native.Mathlib.Nat.{le_trans, le_of_mul-le-mul_left, mul-le-mul_left}
use native.Mathlib.Omega.{arith}
use lib.Dec.{lit<, lit≤}
use lib.IntN.{ℤ, pos, negsuc, neg_ℤ, nat_abs, ◌+ℤ◌, ◌-ℤ◌, ◌*ℤ◌}
use lib.Signed.{◌≤ℤ◌}
use Rattle.proof_kit.proofs.Laws.{P-neg, N-neg}
use Rattle.proof_kit.proofs.Order.{order, pos-≤, pos-≤ℤ, le_le_z}
use Rattle.proof_kit.proofs.Ring.{ring, quote}
use Rattle.constants.specs.declared.Constants.{Constants}
use Rattle.latitudes.specs.declared.Geodetic.{Geodetic}
use Rattle.parameters.specs.declared.Parameters.{Parameters}
use Rattle.azimuthal_inverse.specs.Answer.{GeodeticAnswer, answer_from, inverse_of}
use Rattle.units.specs.Spans.{within, on_plane}
use Rattle.parameters.specs.ParameterSet.{set_refusal}
use Rattle.constants.specs.Derived.{β0, S0, C0, constants_of}
use Rattle.azimuthal_forward.specs.Steps.{c, dE, dN, near_enough}
use Rattle.azimuthal_forward.specs.Answer.{nearness, easting_of, northing_of, forward_of}
use Rattle.azimuthal_inverse.specs.Steps.{K, on_map}
use Rattle.sphere_points.specs.Sphere.{G as G'}
use Rattle.units.proofs.Spans.{Between, size_inside}
use Rattle.parameters.proofs.AcceptedSet.{accepted_fields, lat0_size}
use Rattle.constants.proofs.ConstantsLaws.{sound}
use Rattle.azimuthal_inverse.proofs.AnswerLaws.{inverse_on_plane}
use Rattle.round_trip.specs.RoundTrip.{longitude_gap, farthest_latitude, latitude_bound as latitude_limit_lem, gap_bound}
use Rattle.round_trip.specs.Theorems.{sharp_latitude_bound, sharp_gap_halves, RoundTripAt, SharpRoundTrip, Demand3}
use Rattle.round_trip.specs.RoundTrip.{CloseTo, there_and_back, MeetsDemand3}
use Rattle.round_trip.proofs.Numerals.{unit}
use Rattle.round_trip.proofs.AcceptedAnswer.{AcceptedAnswer, accepted_answer}
use Rattle.round_trip.proofs.Limits.{circle_of, forward_on_plane}
use Rattle.round_trip.proofs.Steps.{Given, close_steps}
use Rattle.round_trip.proofs.Answer.{Centred, Answer, answer}
use Rattle.round_trip.proofs.Angles.{latitude_bound, longitude_bound}

module _ (p : Parameters) (φ : Geodetic) (lon : ℤ) where
  abbrev k : Constants
  k = constants_of p

  abbrev Δ : ℤ
  Δ = lon -ℤ p.lon0

  abbrev eastward : ℤ
  eastward = dE k φ Δ

  abbrev northward : ℤ
  northward = dN k φ Δ

  -- ---- what is given of the set and the position

  -- S0 and C0 are those of φ0
  centred : set_refusal p ≡ 0 → Centred p k
  unfolding constants_of S0 C0 β0
  centred ok = record { s0_is = refl; c0_is = refl; lat0_most = lat0_size p.lat0 (accepted_fields p ok).lat0_accepted }

  -- what the steps ask
  given : set_refusal p ≡ 0 → nat_abs φ.0 ≤ farthest_latitude → pos unit ≤ℤ nearness p φ lon → Given k φ Δ
  unfolding nearness
  given ok latitude near = record { sound = sound p ok; centre = circle_of p; latitude = latitude; near_centre = near }

  -- ---- the inverse accepts

  -- a shift of at most twice the radius is on the map
  on_axis : (r d : ℤ) → Between r 90_909_091 1_080_000_000 → nat_abs d ≤ 2 * nat_abs r → within (neg_ℤ (pos 2 *ℤ r)) (pos 2 *ℤ r) d ≡ true
  on_axis r d between h =
      subst (λ (x : ℤ). within (neg_ℤ (pos 2 *ℤ x)) (pos 2 *ℤ x) d ≡ true) between.natural (size_inside (2 * nat_abs r) d h)

  -- both shifts are
  shifts_on_map : Given k φ Δ → on_map k eastward northward ≡ true
  unfolding on_map
  shifts_on_map g =
      let near = close_steps g in
      ap₂ ◌&&◌ (on_axis k.rd eastward g.sound.rd_between near.d_e_size) (on_axis k.rn northward g.sound.rn_between near.d_n_size)

  -- and near enough
  shifts_near : Given k φ Δ → near_enough (G' (K k eastward northward)) ≡ true
  unfolding near_enough G'
  shifts_near g = le_le_z (close_steps g).G-least

  -- the answer, less the false origin, is the shift
  less_origin : (f d z : ℤ) → f +ℤ d ≡ z → z -ℤ f ≡ d
  less_origin f d z e = ap (λ (x : ℤ). x -ℤ f) (sym e) ∙ ring (f ∷ d ∷ []) (search quote depth 40 fits 20000) tt

  -- so it takes the steps from the shifts
  inverse_is : (E N : ℤ) → AcceptedAnswer p φ lon E N → on_plane E N ≡ true → inverse_of p E N ≡ answer_from p k eastward northward
  unfolding easting_of northing_of
  inverse_is E N there plane =
      inverse_on_plane p E N there.set_accepted plane
      ∙ ap₂ (answer_from p k)
      (less_origin p.false_easting eastward E there.easting) (less_origin p.false_northing northward N there.northing)

  -- ---- the round trip

  -- an answer for the shifts is close to the position
  close_answer : (g : Given k φ Δ) → Answer p k eastward northward → (result : GeodeticAnswer) → result ≡ answer_from p k eastward northward →
      CloseTo sharp_latitude_bound sharp_gap_halves 2 p φ lon result
  unfolding longitude_gap constants_of c
  close_answer g a result e =
      record {
        φ' = a.φ';
        lon' = a.lon';
        answer_is = e ∙ a.position_is;
        latitude_close = latitude_bound lon g a;
        longitude_close = longitude_bound lon g a;
      }

  -- the bounds that the proof gives
  round_trip : RoundTripAt sharp_latitude_bound sharp_gap_halves 2 p φ lon
  unfolding RoundTripAt
  round_trip met =
      let E = met.easting in
      let N = met.northing in
      let ok = met.set_accepted in
      let g = given ok met.from_equator met.near_centre in
      let a = answer p k (sound p ok) (centred ok) eastward northward (shifts_on_map g) (shifts_near g) in
      let there = accepted_answer p φ lon E N met.forward_is in
      close_answer g a (inverse_of p E N) (inverse_is E N there (forward_on_plane p φ lon E N met.forward_is))

-- at most 28 mas, and 17
pub sharp : SharpRoundTrip
sharp p φ lon = round_trip p φ lon

-- ---- weaker bounds

-- bounds that are not less: l for the latitude, n / d for the longitude gap
module _ (l n d l' n' d' : ℕ) (more : l ≤ l') (some : 0 < d) (ratio : d' * n ≤ d * n') where
  -- x is at most n / d, so at most n' / d'
  weaker_ratio : (x : ℤ) → (pos d *ℤ x) ≤ℤ pos (n * unit) → (pos d' *ℤ x) ≤ℤ pos (n' * unit)
  weaker_ratio (pos m) h =
      let times : d * (d' * m) ≤ d * (n' * unit) = omega (arith, mul-le-mul_left d' (pos-≤ h)) in
      pos-≤ℤ (le_of_mul-le-mul_left times some)
  weaker_ratio (negsuc m) h = omega (order, P-neg (pos (d' * suc m)), N-neg (pos (d' * suc m)))

  -- an answer within the first bounds is one within the second
  weaker : (p : Parameters) (φ : Geodetic) (lon : ℤ) (result : GeodeticAnswer) → CloseTo l n d p φ lon result → CloseTo l' n' d' p φ lon result
  weaker p φ lon result close =
      record {
        φ' = close.φ';
        lon' = close.lon';
        answer_is = close.answer_is;
        latitude_close = le_trans close.latitude_close more;
        longitude_close = weaker_ratio (longitude_gap p φ lon close.lon') close.longitude_close;
      }

-- at most 40 mas, both times
pub demand_3 : Demand3
unfolding RoundTripAt
demand_3 p φ lon met =
    weaker sharp_latitude_bound sharp_gap_halves 2 latitude_limit_lem gap_bound 1 (lit≤ tt) (lit< tt) (lit≤ tt)
    p φ lon (inverse_of p met.easting met.northing) (sharp p φ lon met)

-- ---- there and back

-- where the conditions are met, the way back starts from their easting and northing
pub meets_demand_3 : (p : Parameters) (φ : Geodetic) (lon : ℤ) (result : GeodeticAnswer) → result ≡ there_and_back p (forward_of p φ lon) →
    MeetsDemand3 p φ lon result
unfolding MeetsDemand3 RoundTripAt there_and_back
meets_demand_3 p φ lon result e met =
    subst (CloseTo latitude_limit_lem gap_bound 1 p φ lon) (sym (e ∙ ap (there_and_back p) met.forward_is)) (demand_3 p φ lon met)
