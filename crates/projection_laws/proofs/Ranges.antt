-- The range of the inverse's answers: a latitude is the centre's or one that was searched for from −90° to 90°, a longitude is the centre's or was brought
-- inside its limits. The forward answers at −180° and 180° are alike, as these are a full turn apart, which sine and cosine do not see.
-- Assumes nothing.
use mathlib.Core.Path.{◌≡◌, refl, sym, ap, ◌∙◌, subst}
use mathlib.Core.Bool.{Bool, true, false, cond}
use mathlib.Core.List.{[], ◌∷◌}
use Prim.Native.Nat.{ℕ, zero, suc, ◌≤◌}
use lib.Dec.{lit≤}
use lib.IntN.{ℤ, pos, neg_ℤ, nat_abs, ◌+ℤ◌, ◌-ℤ◌}
use lib.Signed.{◌≤ℤ◌, ◌<ℤ◌}
use Rattle.proof_kit.proofs.Ring.{ring, quote}
use Rattle.proof_kit.proofs.Size.{abs_add_le}
use Rattle.proof_kit.proofs.Order.{order, abs_upper}
use Rattle.units.specs.Units.{right_angle, half_turn, full_turn}
use Rattle.trig.specs.Sine.{sine, cosine}
use Rattle.trig.proofs.Interface.{sine_full_turn, sine_quarter_turn}
use Rattle.latitudes.specs.declared.Geodetic.{Geodetic}
use Rattle.parameters.specs.declared.Parameters.{Parameters}
use Rattle.constants.specs.declared.Constants.{Constants}
use Rattle.azimuthal_inverse.specs.Answer.{GeodeticAnswer, Position, latitude_from, longitude_from, inverse_far, inverse_refusal, inverse_latitude, inverse_longitude, geodetic_told, inverse_of, inverse_told}
use Rattle.units.specs.Spans.{within, on_plane, wrapped}
use Rattle.units.specs.Refusals.{unless}
use Rattle.units.specs.Answers.{Told, accepted, refused, answered}
use Rattle.parameters.specs.ParameterSet.{set_refusal}
use Rattle.geodetic_search.specs.Reverse.{geodetic}
use Rattle.constants.specs.Derived.{constants_of}
use Rattle.azimuthal_forward.specs.Steps.{b, c, u, v, w, G, dE, dN}
use Rattle.azimuthal_forward.specs.Answer.{on_globe, nearness, forward_far, forward_refusal, easting_of, northing_of, forward_of}
use Rattle.azimuthal_inverse.specs.Steps.{at_origin, found}
use Rattle.sphere_points.specs.Sphere.{latitude_of, longitude_of}
use Rattle.azimuthal_inverse.proofs.AnswerLaws.{inverse_tells}
use Rattle.parameters.proofs.AcceptedSet.{Accepted, accepted_fields, lat0_size}
use Rattle.geodetic_search.proofs.GeodeticLaws.{geodetic_size}
use Rattle.sphere_points.proofs.AngleLaws.{longitude_size}
use Rattle.units.proofs.Spans.{wrapped_range}
use Rattle.units.proofs.Chains.{both_passed}
use Rattle.projection_laws.specs.Theorems.{InverseRange, HalfTurnAlike}

-- ---- the inverse

-- the latitude and the longitude, for any constants: the centre's own, or those of the point that the steps find
module _ (p : Parameters) (ok : Accepted p) (k : Constants) (dE dN : ℤ) where
  latitude_range : nat_abs (latitude_from p k dE dN).0 ≤ right_angle
  unfolding latitude_from
  latitude_range = at (at_origin dE dN)
    where
      at : (t : Bool) → nat_abs (cond t p.lat0 (geodetic k.series (latitude_of (found k dE dN)))).0 ≤ right_angle
      at true = lat0_size p.lat0 ok.lat0_accepted
      at false = geodetic_size k.series (latitude_of (found k dE dN))

  longitude_range : (neg_ℤ (pos half_turn) <ℤ longitude_from p k dE dN) × (longitude_from p k dE dN ≤ℤ pos half_turn)
  unfolding longitude_from
  longitude_range = at (at_origin dE dN)
    where
      Δ : ℤ
      Δ = longitude_of (found k dE dN)

      at : (t : Bool) → (neg_ℤ (pos half_turn) <ℤ cond t p.lon0 (wrapped (p.lon0 +ℤ Δ))) × (cond t p.lon0 (wrapped (p.lon0 +ℤ Δ)) ≤ℤ pos half_turn)
      at true = (ok.lon0_above, abs_upper p.lon0 ok.lon0_size)
      at false = wrapped_range (p.lon0 +ℤ Δ) (abs_add_le p.lon0 Δ ok.lon0_size (longitude_size (found k dE dN)))

-- what the theorem says of one answer: a refused one tells 0 and 0
abbrev InRange : Told → Type 0
InRange t = (nat_abs t.first ≤ right_angle) × (neg_ℤ (pos half_turn) <ℤ t.second) × (t.second ≤ℤ pos half_turn)

told_range : (n : ℕ) (lat lon : ℤ) → (n ≡ 0 → InRange (accepted lat lon)) → InRange (answered refused n (accepted lat lon))
told_range zero lat lon h = h refl
told_range (suc n) lat lon h = (lit≤ tt, omega order, omega order)

-- where the number is 0 the set is accepted
pub inverse_range : InverseRange
unfolding inverse_told inverse_refusal inverse_latitude inverse_longitude
inverse_range p E N =
    subst InRange (sym (inverse_tells p E N))
    (told_range (inverse_refusal p E N) (inverse_latitude p E N).0 (inverse_longitude p E N)
    (λ passed.
    let ok = accepted_fields p (both_passed (set_refusal p) (unless (on_plane E N) 3 (inverse_far p E N)) passed).0 in
    let dE = E -ℤ p.false_easting in
    let dN = N -ℤ p.false_northing in
    let longitude = longitude_range p ok (constants_of p) dE dN in
    (latitude_range p ok (constants_of p) dE dN, longitude.0, longitude.1)))

-- the same of a position that is answered
pub position_in_range :
    (p : Parameters) (E N : ℤ) (φ : Geodetic) (lon : ℤ) →
    inverse_of p E N ≡ Position φ lon →
    (nat_abs φ.0 ≤ right_angle) × (neg_ℤ (pos half_turn) <ℤ lon) × (lon ≤ℤ pos half_turn)
position_in_range p E N φ lon e = subst (λ (x : GeodeticAnswer). InRange (geodetic_told x)) e (inverse_range p E N)

-- ---- the forward answer at −180° and 180°

cosine_full_turn : (t : ℤ) → cosine (t +ℤ pos full_turn) ≡ cosine t
cosine_full_turn t =
    sym (sine_quarter_turn (t +ℤ pos full_turn))
    ∙ ap sine (swapped t (pos full_turn) (pos right_angle))
    ∙ sine_full_turn (t +ℤ pos right_angle)
    ∙ sine_quarter_turn t
  where
    swapped : (x y z : ℤ) → x +ℤ y +ℤ z ≡ x +ℤ z +ℤ y
    swapped x y z = ring (x ∷ y ∷ z ∷ []) (search quote depth 40 fits 20000) tt

-- u, v and so every step are those of Δ + 360°
module _ (k : Constants) (φ : Geodetic) (Δ : ℤ) where
  u_turn : u k φ (Δ +ℤ pos full_turn) ≡ u k φ Δ
  unfolding u c
  u_turn = rw (sine_full_turn Δ) refl

  v_turn : v k φ (Δ +ℤ pos full_turn) ≡ v k φ Δ
  unfolding v c
  v_turn = rw (cosine_full_turn Δ) refl

  w_turn : w k φ (Δ +ℤ pos full_turn) ≡ w k φ Δ
  unfolding w b
  w_turn = rw v_turn refl

  G-turn : G k φ (Δ +ℤ pos full_turn) ≡ G k φ Δ
  unfolding G b
  G-turn = rw v_turn refl

  d_e_turn : dE k φ (Δ +ℤ pos full_turn) ≡ dE k φ Δ
  unfolding dE
  d_e_turn = rw (u_turn, G-turn) refl

  d_n_turn : dN k φ (Δ +ℤ pos full_turn) ≡ dN k φ Δ
  unfolding dN
  d_n_turn = rw (w_turn, G-turn) refl

half_turn_globe : (φ : Geodetic) → on_globe φ (neg_ℤ (pos half_turn)) ≡ on_globe φ (pos half_turn)
unfolding on_globe within
half_turn_globe φ = refl

pub half_turn_alike : HalfTurnAlike
unfolding forward_of forward_refusal forward_far nearness easting_of northing_of
half_turn_alike p φ =
    let e : pos half_turn -ℤ p.lon0 ≡ (neg_ℤ (pos half_turn) -ℤ p.lon0) +ℤ pos full_turn = turned p.lon0 in
    let Δ : ℤ = neg_ℤ (pos half_turn) -ℤ p.lon0 in
    rw (half_turn_globe φ, e, G-turn (constants_of p) φ Δ, d_e_turn (constants_of p) φ Δ, d_n_turn (constants_of p) φ Δ) refl
  where
    turned : (x : ℤ) → pos half_turn -ℤ x ≡ (neg_ℤ (pos half_turn) -ℤ x) +ℤ pos full_turn
    turned x = ring (x ∷ []) (search quote depth 40 fits 20000) tt
