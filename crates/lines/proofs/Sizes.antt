-- How long an answer's line is at most. An accepted forward answer is the false origin plus near(RD·u/H) or near(RN·w/H), where H is at least
-- 100,000,000, so it has at most 11 digits; an inverse answer lies within ±180°; a refusal number has one digit. Assumes nothing.
use mathlib.Core.Path.{◌≡◌, refl}
use mathlib.Core.Bool.{Bool, true, false}
use Prim.Native.Nat.{◌^◌, ◌<◌, ◌≤◌}
use native.Mathlib.Nat.{le_refl, le_trans}
use native.Mathlib.Omega.{arith}
use lib.Dec.{lit<, lit≤}
use lib.IntN.{ℤ, pos, nat_abs, ◌+ℤ◌, ◌-ℤ◌, ◌*ℤ◌}
use lib.Signed.{◌≤ℤ◌}
use lib.ListN.{length, length-append}
use Rattle.proof_kit.proofs.Order.{abs_between, <ℤ-≤ℤ, le_z_true}
use Rattle.proof_kit.proofs.Size.{abs_add_le, abs_mul_le}
use Rattle.integers.specs.Near.{near}
use Rattle.integers.proofs.Rounding.{near_at_most}
use Rattle.units.specs.Units.{half_turn}
use Rattle.units.specs.Spans.{on_plane, wrapped}
use Rattle.units.proofs.Spans.{wrapped_range}
use Rattle.latitudes.specs.declared.Geodetic.{Geodetic}
use Rattle.geodetic_search.proofs.GeodeticLaws.{geodetic_size}
use Rattle.parameters.specs.ParameterSet.{etrs_laea}
use Rattle.constants.specs.declared.Constants.{Constants}
use Rattle.constants.specs.Derived.{constants_of}
use Rattle.constants.proofs.ConstantsLaws.{Sound, sound}
use Rattle.azimuthal_forward.specs.Steps.{H, u, w, G, dE, dN, near_enough}
use Rattle.azimuthal_forward.specs.Answer.{on_globe, nearness, easting_of, northing_of, forward_of}
use Rattle.azimuthal_forward.proofs.ForwardLaws.{u_size, w_size, H-least}
use Rattle.azimuthal_forward.proofs.AnswerLaws.{forward_off_globe, forward_too_far, forward_plane}
use Rattle.sphere_points.specs.Points.{Point}
use Rattle.azimuthal_inverse.specs.Steps.{at_origin, on_map, K, found}
use Rattle.sphere_points.specs.Sphere.{latitude_of, longitude_of, G as inverseG}
use Rattle.azimuthal_inverse.specs.Answer.{answer_from, inverse_of}
use Rattle.sphere_points.proofs.AngleLaws.{longitude_size}
use Rattle.azimuthal_inverse.proofs.AnswerLaws.{from_origin, from_off_map, from_too_far, from_position, inverse_off_plane, inverse_on_plane}
use Rattle.requests.specs.Requests.{Request, Forward, Inverse, Bad, request_of}
use Rattle.replies.specs.Replies.{reply_text}
use Rattle.replies.proofs.Sizes.{Small, reply_size}
use Rattle.lines.specs.Lines.{plane_reply, position_reply, reply_of, answer_text, answer_line, answer_most}
use Rattle.lines.specs.Theorems.{AnswerSize}
use Rattle.parameters.proofs.Fields.{etrs_accepted}

-- what holds where a test is passed and where it fails
tested : {A : Type 0} (t : Bool) → (t ≡ true → A) → (t ≡ false → A) → A
tested true passed failed = passed refl
tested false passed failed = failed refl

-- ---- forward

abbrev pub k : Constants
k = constants_of etrs_laea

-- "Δ = lon − lon0"
abbrev pub Δ : ℤ → ℤ
Δ lon = lon -ℤ etrs_laea.lon0

k_sound : Sound k
k_sound = sound etrs_laea etrs_accepted

-- a rounded quotient by H
quotient_size : (r x g : ℤ) → nat_abs r ≤ 1_080_000_000 → nat_abs x ≤ 2_000_000_000 → pos 20_000_000 ≤ℤ g → nat_abs (near (r *ℤ x) (H g)) ≤ 21_600_000_000
quotient_size r x g r-size x_size close =
    let least = H-least g close in
    near_at_most (r *ℤ x) (H g) 21_600_000_000 (omega arith) (omega (arith, abs_mul_le r x r-size x_size))

module _ (φ : Geodetic) (lon : ℤ) (close : near_enough (nearness etrs_laea φ lon) ≡ true) where
  pub G-least : pos 20_000_000 ≤ℤ G k φ (Δ lon)
  unfolding near_enough nearness
  G-least = le_z_true (pos 20_000_000) (G k φ (Δ lon)) close

  easting_size : nat_abs (easting_of etrs_laea φ lon) < 10 ^ 11
  unfolding easting_of dE
  easting_size =
      let u-most = le_trans (u_size k φ (Δ lon)) (lit≤ tt) in
      let size = quotient_size k.rd (u k φ (Δ lon)) (G k φ (Δ lon)) k_sound.rd_between.most u-most G-least in
      omega (arith, abs_add_le etrs_laea.false_easting (dE k φ (Δ lon)) (le_refl 432_100_000) size)

  northing_size : nat_abs (northing_of etrs_laea φ lon) < 10 ^ 11
  unfolding northing_of dN
  northing_size =
      let w-most = w_size k k_sound.centre φ (Δ lon) in
      let size = quotient_size k.rn (w k φ (Δ lon)) (G k φ (Δ lon)) k_sound.rn_between.most w-most G-least in
      omega (arith, abs_add_le etrs_laea.false_northing (dN k φ (Δ lon)) (le_refl 321_000_000) size)

forward_small : (φ : Geodetic) (lon : ℤ) → Small (plane_reply (forward_of etrs_laea φ lon))
forward_small φ lon =
    tested (on_globe φ lon)
    (λ on.
    tested (near_enough (nearness etrs_laea φ lon))
    (λ close. rw (forward_plane etrs_laea φ lon etrs_accepted on close) (easting_size φ lon close, northing_size φ lon close))
    (λ far. rw (forward_too_far etrs_laea φ lon etrs_accepted on far) (lit< tt)))
    (λ off. rw (forward_off_globe etrs_laea φ lon etrs_accepted off) (lit< tt))

-- ---- inverse

wrapped_size : (s : Point) → nat_abs (wrapped (etrs_laea.lon0 +ℤ longitude_of s)) ≤ half_turn
wrapped_size s =
    let lon = etrs_laea.lon0 +ℤ longitude_of s in
    let range = wrapped_range lon (omega (arith, abs_add_le etrs_laea.lon0 (longitude_of s) (le_refl 36_000_000) (longitude_size s))) in
    abs_between (wrapped lon) (<ℤ-≤ℤ range.0) range.1

from_small : (c : Constants) (x y : ℤ) → Small (position_reply (answer_from etrs_laea c x y))
from_small c x y =
    let s = found c x y in
    tested (at_origin x y)
    (λ at. rw (from_origin etrs_laea c x y at) (lit< tt, lit< tt))
    (λ off.
    tested (on_map c x y)
    (λ on.
    tested (near_enough (inverseG (K c x y)))
    (λ close.
    rw (from_position etrs_laea c x y off on close)
    (omega (arith, geodetic_size c.series (latitude_of s)), omega (arith, wrapped_size s)))
    (λ far. rw (from_too_far etrs_laea c x y off on far) (lit< tt)))
    (λ beyond. rw (from_off_map etrs_laea c x y off beyond) (lit< tt)))

inverse_small : (E N : ℤ) → Small (position_reply (inverse_of etrs_laea E N))
inverse_small E N =
    tested (on_plane E N)
    (λ on.
    rw (inverse_on_plane etrs_laea E N etrs_accepted on)
    (from_small k (E -ℤ etrs_laea.false_easting) (N -ℤ etrs_laea.false_northing)))
    (λ off. rw (inverse_off_plane etrs_laea E N etrs_accepted off) (lit< tt))

-- ---- any line

reply_small : (r : Request) → Small (reply_of r)
unfolding reply_of
reply_small (Forward φ lon) = forward_small (record { 0 = φ }) lon
reply_small (Inverse E N) = inverse_small E N
reply_small Bad = tt

-- There is room for a reply's text and the newline after it.
pub reply_fits : (r : Request) → length (reply_text (reply_of r)) < answer_most
reply_fits r = omega (arith, reply_size (reply_of r) (reply_small r))

pub answer_size : AnswerSize
unfolding answer_line answer_text
answer_size line = rw length-append (omega (arith, reply_fits (request_of line)))
