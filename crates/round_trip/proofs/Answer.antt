-- What the inverse steps answer for the shifts that the forward steps give: a position, and the two angles that it comes from.
-- Both shifts zero is the centre, whose answer is not computed: but the steps, were they taken, would find the centre's own sine and cosine, so its angles
-- serve as well.
-- Assumes nothing.
use mathlib.Core.Path.{◌≡◌, refl, sym, ap, ◌∙◌, subst}
use mathlib.Core.Bool.{Bool, true, false}
use mathlib.Core.List.{[], ◌∷◌}
use mathlib.Core.Logic.{◌⊎◌, inl, inr}
use Prim.Native.Nat.{ℕ, ◌+◌, ◌*◌, ◌≤◌}
use native.Mathlib.Nat.{le_trans}
use native.Mathlib.Omega.{arith}
use lib.Dec.{lit<}
use lib.IntN.{ℤ, pos, neg_ℤ, nat_abs, ◌+ℤ◌, ◌-ℤ◌, ◌*ℤ◌, +ℤ_idr, *ℤ_comm, zero-*ℤ}
use lib.Signed.{◌≤ℤ◌, ◌<ℤ◌}
use Rattle.proof_kit.proofs.Laws.{nat_abs_parts, parts--}
use Rattle.proof_kit.proofs.Order.{order, pos_abs, ≤ℤ-total, <ℤ-≤ℤ, le_of}
use Rattle.proof_kit.proofs.Certificate.{nonneg_gap}
use Rattle.proof_kit.proofs.Ring.{ring, quote}
use Rattle.proof_kit.proofs.Size.{abs_sub_sym}
use Rattle.integers.specs.Near.{near}
use Rattle.integers.specs.Root.{root}
use Rattle.integers.proofs.Rounding.{near_zero, near_whole}
use Rattle.integers.proofs.Squares.{root_is}
use Rattle.units.specs.Units.{right_angle, half_turn, full_turn, U}
use Rattle.trig.specs.Sine.{sine, cosine}
use Rattle.trig.proofs.Interface.{cosine_nonneg}
use Rattle.constants.specs.declared.Constants.{Constants}
use Rattle.latitudes.specs.declared.AuthalicSeries.{AuthalicSeries}
use Rattle.latitudes.specs.declared.Geodetic.{Geodetic}
use Rattle.parameters.specs.declared.Parameters.{Parameters}
use Rattle.sphere_points.specs.Points.{Point}
use Rattle.azimuthal_inverse.specs.Answer.{Position, answer_from}
use Rattle.units.specs.Spans.{same, within, wrapped}
use Rattle.latitudes.proofs.AuthalicLaws.{beta_mas, beta_slope, beta_size}
use Rattle.latitudes.specs.Latitude.{beta}
use Rattle.latitudes.specs.InnerSizes.{SmallSeries}
use Rattle.geodetic_search.specs.Reverse.{geodetic}
use Rattle.azimuthal_forward.specs.Steps.{H, near_enough}
use Rattle.azimuthal_inverse.specs.Steps.{X, Y, K, found, at_origin, on_map}
use Rattle.sphere_points.specs.Sphere.{versine_of, G, up, level, z_of, f_of, point_of, latitude_of, longitude_of}
use Rattle.units.proofs.Spans.{Between, same_equal, wrapped_low, wrapped_high, wrapped_between}
use Rattle.integers.proofs.Greatest.{both}
use Rattle.constants.proofs.ConstantsLaws.{Sound}
use Rattle.azimuthal_inverse.proofs.AnswerLaws.{from_origin, from_position}
use Rattle.sphere_points.proofs.AngleLaws.{radius, latitude_size}
use Rattle.round_trip.specs.Theorems.{sharp_latitude_bound as bound}
use Rattle.round_trip.proofs.Numerals.{unit, Eβ}
use Rattle.round_trip.proofs.Tools.{squares}
use Rattle.round_trip.proofs.Sector.{Sector, angle_sector, latitude_sector, own_sector, zero_sector}
use Rattle.round_trip.proofs.Latitude.{geodetic_close}

-- S0 and C0 are sine and cosine of the β of φ0
pub record Centred (p : Parameters) (k : Constants) : Type 0 where
  pub s0_is : k.s0 ≡ sine (beta k.series p.lat0).0
  pub c0_is : k.c0 ≡ cosine (beta k.series p.lat0).0
  pub lat0_most : nat_abs p.lat0.0 ≤ right_angle

-- the position (φ', lon'), which comes from the angles β' and Δ' of the point that the steps find
pub record Answer (p : Parameters) (k : Constants) (dE dN : ℤ) : Type 0 where
  pub φ' : Geodetic
  pub lon' : ℤ
  pub β' : ℤ
  pub Δ' : ℤ
  pub turns : ℤ
  pub position_is : answer_from p k dE dN ≡ Position φ' lon'
  pub β'_size : nat_abs β' ≤ right_angle
  pub latitude : Sector (pos (radius (found k dE dN))) (found k dE dN).z β'
  pub longitude : Sector (found k dE dN).f (found k dE dN).east Δ'
  pub φ'_close : (φ : Geodetic) → nat_abs φ.0 ≤ right_angle → nat_abs (β' -ℤ (beta k.series φ).0) ≤ Eβ → nat_abs (φ'.0 -ℤ φ.0) ≤ bound
  pub lon'_is : lon' ≡ p.lon0 +ℤ Δ' +ℤ turns *ℤ pos full_turn

-- ---- a point that is not the centre

-- turns that a wrapped longitude has more than the longitude
record Turned (lon : ℤ) : Type 0 where
  turns : ℤ
  is : wrapped lon ≡ lon +ℤ turns *ℤ pos full_turn

-- a wrapped longitude is the longitude and some turns
turned : (lon : ℤ) → Turned lon
turned lon = at (≤ℤ-total lon (neg_ℤ (pos half_turn))) (≤ℤ-total lon (pos half_turn))
  where
    none : (x : ℤ) → x ≡ x +ℤ pos 0 *ℤ pos full_turn
    none x = ring (x ∷ []) (search quote depth 40 fits 20000) tt

    at : (lon ≤ℤ neg_ℤ (pos half_turn)) ⊎ (neg_ℤ (pos half_turn) <ℤ lon) → (lon ≤ℤ pos half_turn) ⊎ (pos half_turn <ℤ lon) → Turned lon
    at (inl h) o = record { turns = pos 1; is = wrapped_low lon h }
    at (inr h) (inl l) = record { turns = pos 0; is = wrapped_between lon h l ∙ none lon }
    at (inr h) (inr l) = record { turns = neg_ℤ (pos 1); is = wrapped_high lon l }

-- the latitude that the steps compute serves as the angle of R and z
own_latitude : (s : Point) → Sector (pos (radius s)) s.z (latitude_of s).0
unfolding latitude_of
own_latitude s = latitude_sector (radius s) s.z

-- and the longitude as that of f and east
own_longitude : (s : Point) → Sector s.f s.east (longitude_of s)
unfolding longitude_of
own_longitude s = angle_sector s.f s.east

module _ (p : Parameters) (k : Constants) (sound : Sound k) (dE dN : ℤ) where
  -- the answer that the steps compute
  away : at_origin dE dN ≡ false → on_map k dE dN ≡ true → near_enough (G (K k dE dN)) ≡ true → Answer p k dE dN
  away e f g =
      let s : Point = found k dE dN in
      record {
        φ' = geodetic k.series (latitude_of s);
        lon' = wrapped (p.lon0 +ℤ longitude_of s);
        β' = (latitude_of s).0;
        Δ' = longitude_of s;
        turns = (turned (p.lon0 +ℤ longitude_of s)).turns;
        position_is = from_position p k dE dN e f g;
        β'_size = latitude_size s;
        latitude = own_latitude s;
        longitude = own_longitude s;
        φ'_close = λ φ h l. geodetic_close k.series sound.small φ (latitude_of s) h l;
        lon'_is = (turned (p.lon0 +ℤ longitude_of s)).is;
      }

-- ---- the centre

-- both shifts are zero there
origin : (dE dN : ℤ) → at_origin dE dN ≡ true → (dE ≡ pos 0) × (dN ≡ pos 0)
unfolding at_origin
origin dE dN e =
    let t = both (same dE (pos 0)) (same dN (pos 0)) e in
    (same_equal dE (pos 0) t.0, same_equal dN (pos 0) t.1)

-- latitudes whose β are close are close, as β rises by at least 0.993 for each mas, but for one
module _ (k : AuthalicSeries) (small : SmallSeries k) where
  -- n mas of latitude are few where their β are close
  few : (n : ℕ) (x y : ℤ) → (pos 993 *ℤ pos n -ℤ pos 1000) ≤ℤ (pos 1000 *ℤ (y -ℤ x)) → nat_abs (y -ℤ x) ≤ Eβ → n ≤ bound
  few n x y slope close =
      omega (order, le_of (pos n ∷ x ∷ y ∷ []) (search quote depth 40 fits 20000) slope, nat_abs_parts (y -ℤ x), parts-- y x)

  -- from φ up to ψ
  rising : (φ ψ : ℤ) → φ ≤ℤ ψ → nat_abs (beta_mas k ψ -ℤ beta_mas k φ) ≤ Eβ → nat_abs (ψ -ℤ φ) ≤ bound
  rising φ ψ h close = few (nat_abs (ψ -ℤ φ)) (beta_mas k φ) (beta_mas k ψ) (rw apart at (beta_slope k small (nat_abs (ψ -ℤ φ)) φ)) close
    where
      apart : φ +ℤ pos (nat_abs (ψ -ℤ φ)) ≡ ψ
      apart = ap (λ (x : ℤ). φ +ℤ x) (pos_abs (nonneg_gap h)) ∙ ring (φ ∷ ψ ∷ []) (search quote depth 40 fits 20000) tt

  -- either way
  beta_close : (ψ φ : ℤ) → nat_abs (beta_mas k ψ -ℤ beta_mas k φ) ≤ Eβ → nat_abs (ψ -ℤ φ) ≤ bound
  beta_close ψ φ close = at (≤ℤ-total φ ψ)
    where
      at : (φ ≤ℤ ψ) ⊎ (ψ <ℤ φ) → nat_abs (ψ -ℤ φ) ≤ bound
      at (inl h) = rising φ ψ h close
      at (inr h) = rw (abs_sub_sym ψ φ) (rising ψ φ (<ℤ-≤ℤ h) (rw (abs_sub_sym (beta_mas k φ) (beta_mas k ψ)) close))

-- the point that the steps would find from no shift
module _ (k : Constants) (sound : Sound k) where
  -- a shift of 0 has the length 0
  quotient_zero : (r : ℤ) → Between r 90_909_091 1_080_000_000 → near (pos 0 *ℤ U) (nat_abs r) ≡ pos 0
  quotient_zero r between = near_zero (nat_abs r) (le_trans (lit< tt) between.least)

  X-zero : X k (pos 0) ≡ pos 0
  unfolding X
  X-zero = quotient_zero k.rd sound.rd_between

  Y-zero : Y k (pos 0) ≡ pos 0
  unfolding Y
  Y-zero = quotient_zero k.rn sound.rn_between

  -- so K is 0
  K-zero : K k (pos 0) (pos 0) ≡ pos 0
  unfolding K versine_of
  K-zero = rw (X-zero, Y-zero) (near_zero (2 * unit) (lit< tt))

  -- at 0 the point is in the middle of the map
  level_zero : (K : ℤ) → level K (pos 0) ≡ pos 0
  unfolding level
  level_zero K = rw (zero-*ℤ (pos (H (G K)))) (near_zero unit (lit< tt))

  -- and as high as the sphere
  up_zero : up (pos 0) ≡ U
  unfolding up
  up_zero = refl

  -- U times a number, over U
  upright : (x : ℤ) → near (U *ℤ x +ℤ pos 0) unit ≡ x
  upright x = rw (+ℤ_idr (U *ℤ x), *ℤ_comm U x) (near_whole x unit (lit< tt))

  -- z is S0, and f is C0
  z_zero : z_of k U (pos 0) ≡ k.s0
  unfolding z_of
  z_zero = rw (zero-*ℤ k.c0) (upright k.s0)

  f_zero : f_of k U (pos 0) ≡ k.c0
  unfolding f_of
  f_zero = rw (zero-*ℤ k.s0) (upright k.c0)

  -- all three coordinates
  found_zero : found k (pos 0) (pos 0) ≡ record { east = pos 0; z = k.s0; f = k.c0 }
  unfolding found point_of
  found_zero = rw (X-zero, Y-zero, K-zero, level_zero (pos 0), up_zero, z_zero, f_zero)

-- how far (0, x) is from the axis
length : (x : ℤ) → root (nat_abs (pos 0 *ℤ pos 0 +ℤ x *ℤ x)) ≡ nat_abs x
length x = rw (squares (pos 0) x) (root_is (0 * 0 + nat_abs x * nat_abs x) (nat_abs x) (omega arith) (omega arith))

module _ (p : Parameters) (k : Constants) (sound : Sound k) (centred : Centred p k) where
  -- the β of φ0
  abbrev β0 : ℤ
  β0 = (beta k.series p.lat0).0

  β0_size : nat_abs β0 ≤ right_angle
  β0_size = beta_size k.series sound.small p.lat0.0 centred.lat0_most

  -- C0 is not negative
  c0_nonneg : pos 0 ≤ℤ k.c0
  c0_nonneg = rw centred.c0_is (cosine_nonneg β0 β0_size)

  -- the centre's own angle serves for its distance from the axis and its z
  centre_latitude : Sector (pos (root (nat_abs (pos 0 *ℤ pos 0 +ℤ k.c0 *ℤ k.c0)))) k.s0 β0
  centre_latitude =
      let R-is : pos (root (nat_abs (pos 0 *ℤ pos 0 +ℤ k.c0 *ℤ k.c0))) ≡ cosine β0 = ap pos (length k.c0) ∙ pos_abs c0_nonneg ∙ centred.c0_is in
      subst (λ (x : ℤ). Sector x k.s0 β0) (sym R-is) (subst (λ (z : ℤ). Sector (cosine β0) z β0) (sym centred.s0_is) (own_sector β0 β0_size))

  -- the centre's answer
  centre : Answer p k (pos 0) (pos 0)
  unfolding at_origin same within
  centre =
      record {
        φ' = p.lat0;
        lon' = p.lon0;
        β' = β0;
        Δ' = pos 0;
        turns = pos 0;
        position_is = from_origin p k (pos 0) (pos 0) refl;
        β'_size = β0_size;
        latitude = subst (λ (s : Point). Sector (pos (radius s)) s.z β0) (sym (found_zero k sound)) centre_latitude;
        longitude = subst (λ (s : Point). Sector s.f s.east (pos 0)) (sym (found_zero k sound)) (zero_sector k.c0 c0_nonneg);
        φ'_close = λ φ h l. beta_close k.series sound.small p.lat0.0 φ.0 l;
        lon'_is = ring (p.lon0 ∷ []) (search quote depth 40 fits 20000) tt;
      }

  -- ---- any shifts

  -- the answer for shifts that the inverse accepts
  pub answer : (dE dN : ℤ) → on_map k dE dN ≡ true → near_enough (G (K k dE dN)) ≡ true → Answer p k dE dN
  answer dE dN f g = at (at_origin dE dN) refl
    where
      at : (t : Bool) → at_origin dE dN ≡ t → Answer p k dE dN
      at true e =
          let zero = origin dE dN e in
          rw (zero.0, zero.1) centre
      at false e = away p k sound dE dN e f g
