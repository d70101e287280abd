-- From close vectors to close angles: the answer's latitude and longitude are close to those of the position, by the aim of each of its two angles.
-- Assumes nothing.
use mathlib.Core.Path.{◌≡◌}
use mathlib.Core.List.{[], ◌∷◌}
use Prim.Native.Nat.{ℕ, ◌+◌, ◌*◌, ◌≤◌}
use native.Mathlib.Nat.{le_refl}
use native.Mathlib.Omega.{arith}
use lib.Dec.{lit≤}
use lib.IntN.{ℤ, pos, neg_ℤ, nat_abs, ◌+ℤ◌, ◌-ℤ◌, ◌*ℤ◌}
use lib.Signed.{◌≤ℤ◌}
use Rattle.proof_kit.proofs.Order.{pos-≤ℤ}
use Rattle.proof_kit.proofs.Ring.{ring, ring_from, quote}
use Rattle.proof_kit.proofs.Size.{abs_by, abs_sub_le, sizes}
use Rattle.units.specs.Units.{right_angle, half_turn, full_turn}
use Rattle.trig.specs.Sine.{sine, cosine}
use Rattle.constants.specs.declared.Constants.{Constants}
use Rattle.latitudes.specs.declared.Geodetic.{Geodetic}
use Rattle.parameters.specs.declared.Parameters.{Parameters}
use Rattle.sphere_points.specs.Points.{Point}
use Rattle.latitudes.specs.Latitude.{beta}
use Rattle.latitudes.proofs.AuthalicLaws.{beta_size}
use Rattle.azimuthal_forward.specs.Steps.{b, c, u, v, dE, dN}
use Rattle.azimuthal_inverse.specs.Steps.{found}
use Rattle.sphere_points.proofs.AngleLaws.{radius}
use Rattle.round_trip.specs.RoundTrip.{turn_gap}
use Rattle.round_trip.specs.Theorems.{sharp_latitude_bound, sharp_gap_halves}
use Rattle.round_trip.proofs.Numerals.{unit, E1, Ez, ER}
use Rattle.round_trip.proofs.Tools.{Near, parts}
use Rattle.round_trip.proofs.Aim.{aim}
use Rattle.round_trip.proofs.Gap.{gap_attained}
use Rattle.round_trip.proofs.Steps.{Given, c_natural, forward_steps, close_steps}
use Rattle.round_trip.proofs.Answer.{Answer}

-- a bound on a difference, times U
scaled : (x y : ℤ) {n : ℕ} → nat_abs (x -ℤ y) ≤ n → nat_abs (pos unit *ℤ x -ℤ pos unit *ℤ y) ≤ unit * n
scaled x y h = abs_by (apart (pos unit) x y) (search sizes depth 40 fits 20000) (omega arith)
  where
    apart : (U x y : ℤ) → U *ℤ x -ℤ U *ℤ y ≡ U *ℤ (x -ℤ y)
    apart U x y = ring (U ∷ x ∷ y ∷ []) (search quote depth 40 fits 20000) tt

-- the same, where y is itself n / U, rounded
rounded_scaled : (x y n : ℤ) {m : ℕ} → nat_abs (x -ℤ y) ≤ m → Near unit y n → nat_abs (pos unit *ℤ x -ℤ n) ≤ unit * (m + 1)
rounded_scaled x y n h r = abs_by (apart (pos unit) x y n) (search parts depth 40 fits 20000) (omega arith)
  where
    apart : (U x y n : ℤ) → U *ℤ x -ℤ n ≡ U *ℤ (x -ℤ y) +ℤ (U *ℤ y -ℤ n)
    apart U x y n = ring (U ∷ x ∷ y ∷ n ∷ []) (search quote depth 40 fits 20000) tt

-- the gap of two longitudes is at most half a turn
gap_most : (d : ℤ) → turn_gap d ≤ half_turn
unfolding turn_gap
gap_most d = omega arith

-- the answer for the shifts of the position (φ, lon)
module _ {p : Parameters} {k : Constants} {φ : Geodetic} (lon : ℤ) (g : Given k φ (lon -ℤ p.lon0))
    (a : Answer p k (dE k φ (lon -ℤ p.lon0)) (dN k φ (lon -ℤ p.lon0))) where
  abbrev Δ : ℤ
  Δ = lon -ℤ p.lon0

  abbrev s : Point
  s = found k (dE k φ Δ) (dN k φ Δ)

  -- ---- the latitude

  abbrev β : ℤ
  β = (beta k.series φ).0

  -- R is close to c
  R-near : nat_abs (pos (radius s) -ℤ c k φ Δ) ≤ ER
  R-near = rw (c_natural g) at (close_steps g).R-close

  -- R and z have the direction of β, but for ER and Ez
  authalic_aim : 24 * (nat_abs (a.β' -ℤ β) * unit) ≤ (5 * (ER + Ez) + 34) * unit
  unfolding b c
  authalic_aim =
      aim unit ER Ez (pos (radius s)) s.z β a.β' (a.β' -ℤ β) (pos 0) (lit≤ tt) (le_refl unit)
      (scaled (pos (radius s)) (cosine β) R-near) (scaled s.z (sine β) (close_steps g).z_close) (lit≤ tt) a.latitude
      (ring (β ∷ a.β' ∷ []) (search quote depth 40 fits 20000) tt)
      (abs_sub_le a.β' β a.β'_size (beta_size k.series g.sound.small φ.0 in_range))
    where
      in_range : nat_abs φ.0 ≤ right_angle
      in_range = omega (arith, g.latitude)

  -- so β' is at most Eβ from β, and the latitude as close to φ as the bound says
  pub latitude_bound : nat_abs (a.φ'.0 -ℤ φ.0) ≤ sharp_latitude_bound
  latitude_bound = a.φ'_close φ (omega (arith, g.latitude)) (omega (arith, authalic_aim))

  -- ---- the longitude

  -- c, as a natural number
  abbrev c_size : ℕ
  c_size = nat_abs (c k φ Δ)

  -- f and east have c / U times the direction of Δ, but for Ez + 1 and E1 + 1; d is the difference of the longitudes, brought to the gap by whole turns
  longitude_aim : 24 * (turn_gap (a.lon' -ℤ lon) * c_size) ≤ (5 * (Ez + 1 + (E1 + 1)) + 34) * unit
  longitude_aim =
      let F = forward_steps g in
      let near = close_steps g in
      let gap = gap_attained (a.lon' -ℤ lon) in
      let d : ℤ = a.lon' -ℤ lon +ℤ gap.0 *ℤ pos full_turn in
      rw gap.1
      (aim c_size (Ez + 1) (E1 + 1) s.f s.east Δ a.Δ' d (neg_ℤ (a.turns +ℤ gap.0)) F.c_least F.c_most
      (rounded_scaled s.f (v k φ Δ) (pos c_size *ℤ cosine Δ) near.f_close F.near_v)
      (rounded_scaled s.east (u k φ Δ) (pos c_size *ℤ sine Δ) near.east_close F.near_u)
      (lit≤ tt) a.longitude
      (from_lon0 p.lon0 lon a.lon' a.Δ' a.turns gap.0 a.lon'_is)
      (rw gap.1 at (gap_most (a.lon' -ℤ lon))))
    where
      -- Δ and Δ' differ as the longitudes do, but for whole turns
      from_lon0 : (lon0 lon lon' Δ' i j : ℤ) → lon' ≡ lon0 +ℤ Δ' +ℤ i *ℤ pos full_turn →
          Δ' ≡ (lon -ℤ lon0) +ℤ (lon' -ℤ lon +ℤ j *ℤ pos full_turn) +ℤ neg_ℤ (i +ℤ j) *ℤ pos full_turn
      from_lon0 lon0 lon lon' Δ' i j e =
          ring_from (lon0 ∷ lon ∷ lon' ∷ Δ' ∷ i ∷ j ∷ []) (neg_ℤ (pos 1)) e (search quote depth 40 fits 20000) tt

  -- so the longitude gap is at most 17
  pub longitude_bound : (pos 2 *ℤ (pos (turn_gap (a.lon' -ℤ lon)) *ℤ c k φ (lon -ℤ p.lon0))) ≤ℤ pos (sharp_gap_halves * unit)
  longitude_bound = rw (← (c_natural g)) (pos-≤ℤ (omega (arith, longitude_aim)))
