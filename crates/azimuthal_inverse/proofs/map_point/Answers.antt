-- Each return follows from the tests that led there, and on the map X and Y are at most 2 units. Assumes nothing.
use Rattle.std.proofs.Common.{◌≡◌, Bool, true, ◌^◌, ◌<◌, ◌≤◌, ℤ, pos, nat_abs, ◌-ℤ◌, ◌*ℤ◌, ◌≤ℤ◌, lit<, sym, ap, ap₂, ◌∙◌, subst}
use Rattle.std.proofs.lemmas.Result.{err_from_is_err_and}
use native.Mathlib.Nat.{le_refl, le_trans}
use lib.Dec.{lit≤}
use lib.Signed.{mag, le_z}
use mir.Syntax.{w64}
use mir.Val.{SFits}
use mir.Facts.{to_z-of_z}
use Rattle.proof_kit.proofs.Range.{kept, returned}
use Rattle.proof_kit.proofs.Size.{abs_sub_le}
use Rattle.proof_kit.proofs.Order.{pos-≤ℤ}
use Rattle.integers.specs.Near.{near}
use Rattle.units.specs.Units.{U}
use Rattle.units.specs.Refusals.{too_far as too_far_number}
use Rattle.units.proofs.Spans.{Between}
use Rattle.constants.specs.declared.Constants.{Constants}
use Rattle.constants.proofs.ConstantsLaws.{Sound, sound_as}
use Rattle.billionths.proofs.Calls.{back, back_is, fits_is, quotient_is}
use Rattle.azimuthal_forward.specs.Steps.{near_enough}
use Rattle.azimuthal_forward.proofs.StageLaws.{passed, failed}
use Rattle.sphere_points.specs.Sphere.{versine_of, G}
use Rattle.sphere_points.proofs.SphereLaws.{versine_size}
use Rattle.azimuthal_inverse.specs.Steps.{at_origin, on_map, X, Y, K}
use Rattle.azimuthal_inverse.specs.InnerStages.{OfAcceptedSet}
use Rattle.azimuthal_inverse.proofs.InverseLaws.{OnMap, map_sizes}
use Rattle.azimuthal_inverse.proofs.StageLaws.{outcome_is}
use Rattle.azimuthal_inverse.proofs.StageLaws.Outcome.{origin, off_map, too_far, stepped}
use Rattle.azimuthal_inverse.proofs.map_point.Goals as goal

constants : {k : Constants} → OfAcceptedSet k → Sound k
constants given = sound_as given.set _ given.set_accepted given.constants

-- a distance and a radius are as a quotient requires them
radius-read : {r : ℤ} → Between r 90_909_091 1_080_000_000 → back r ≡ r
radius-read b = kept _ b.most (lit< tt)

division : (x : ℤ) {r : ℤ} → nat_abs x ≤ 2_160_000_000 → Between r 90_909_091 1_080_000_000 →
    (nat_abs (back x) ≤ 2_160_000_000) × (pos 1 ≤ℤ back r) × (nat_abs (back r) ≤ 2_000_000_000)
division x h b =
    rw (kept x h (lit< tt), radius-read b)
    (h, subst (λ (z : ℤ). pos 1 ≤ℤ z) b.natural (pos-≤ℤ (le_trans (lit≤ tt) b.least)), le_trans b.most (lit≤ tt))

-- what the tests and the calls give, of dE and dN as they are read back
module _ (k : Constants) (dE dN : ℤ) (given : OfAcceptedSet k) (fe : SFits w64 dE) (fn : SFits w64 dN) where
  at : {b v : Bool} → b ≡ at_origin (back dE) (back dN) → b ≡ v → at_origin dE dN ≡ v
  at is e = sym (ap₂ at_origin (to_z-of_z fe) (to_z-of_z fn)) ∙ sym is ∙ e

  on : {b v : Bool} → b ≡ on_map k (back dE) (back dN) → b ≡ v → on_map k dE dN ≡ v
  on is e = sym (ap₂ (on_map k) (to_z-of_z fe) (to_z-of_z fn)) ∙ sym is ∙ e

  x-read : {r : ℤ} → mag r < 2 ^ 63 → r ≡ near (back dE *ℤ U) (nat_abs (back k.rd)) → back r ≡ X k dE
  unfolding X
  x-read ok is = quotient_is ok is (to_z-of_z fe) (radius-read (constants given).rd_between)

  y-read : {r : ℤ} → mag r < 2 ^ 63 → r ≡ near (back dN *ℤ U) (nat_abs (back k.rn)) → back r ≡ Y k dN
  unfolding Y
  y-read ok is = quotient_is ok is (to_z-of_z fn) (radius-read (constants given).rn_between)

  K-read : {r : ℤ} (x y : ℤ) → mag r < 2 ^ 63 → r ≡ versine_of (back x) (back y) → back x ≡ X k dE → back y ≡ Y k dN → back r ≡ K k dE dN
  unfolding K
  K-read x y ok is ex ey = returned ok ∙ is ∙ ap₂ versine_of ex ey

  sizes : on_map k dE dN ≡ true → OnMap k dE dN
  sizes e = map_sizes k (constants given) dE dN e

  -- the number r that K is, and G
  module _ (r : ℤ) (e : on_map k dE dN ≡ true) (is : back r ≡ K k dE dN) where
    G-is : pos 2_000_000_000 -ℤ back r ≡ G (K k dE dN)
    unfolding G
    G-is = ap (λ (x : ℤ). pos 2_000_000_000 -ℤ x) is

    G-size : nat_abs (G (K k dE dN)) ≤ 6_000_000_000
    unfolding G K
    G-size = abs_sub_le (pos 2_000_000_000) (K k dE dN) (le_refl 2_000_000_000) (versine_size _ _ (sizes e).X-size (sizes e).Y-size)

    G-fits : SFits w64 (pos 2_000_000_000 -ℤ back r)
    G-fits = fits_is G-is G-size (lit< tt)

    tested : le_z (pos 20_000_000) (back (pos 2_000_000_000 -ℤ back r)) ≡ near_enough (G (K k dE dN))
    unfolding near_enough
    tested = ap (le_z (pos 20_000_000)) (back_is G-is G-size (lit< tt))

pub returns-then-is_origin : goal.returns-then-is_origin
returns-then-is_origin c =
    outcome_is _ _ _ (origin (at c.args.k c.args.de c.args.dn c.requires c.ranges.de c.ranges.dn c.is_origin.ensures c.if-is_origin.true))

pub is_on_map-requires : goal.is_on_map-requires
is_on_map-requires c = let k = constants c.requires in (k.rd_between.most, k.rn_between.most)

pub returns-in_err-unless : goal.returns-in_err-unless
returns-in_err-unless c =
    let e = err_from_is_err_and c.from_residual.result c.from_residual.ensures.1 in
    let f = failed c.is_on_map.result too_far_number _ c.in_err-unless.ensures in
    rw (e.1, e.2, f.1)
    (outcome_is _ _ _ (off_map
    (at c.args.k c.args.de c.args.dn c.requires c.ranges.de c.ranges.dn c.is_origin.ensures c.if-is_origin.false)
    (on c.args.k c.args.de c.args.dn c.requires c.ranges.de c.ranges.dn c.is_on_map.ensures f.0)))

pub quotient-x-requires : goal.quotient-x-requires
quotient-x-requires c =
    let e = on c.args.k c.args.de c.args.dn c.requires c.ranges.de c.ranges.dn c.is_on_map.ensures (passed _ 3 c.in_ok-unless.ensures) in
    division c.args.de (sizes c.args.k c.args.de c.args.dn c.requires c.ranges.de c.ranges.dn e).d_e_size (constants c.requires).rd_between

pub quotient-y-requires : goal.quotient-y-requires
quotient-y-requires c =
    let e = on c.args.k c.args.de c.args.dn c.requires c.ranges.de c.ranges.dn c.is_on_map.ensures (passed _ 3 c.in_ok-unless.ensures) in
    division c.args.dn (sizes c.args.k c.args.de c.args.dn c.requires c.ranges.de c.ranges.dn e).d_n_size (constants c.requires).rn_between

pub versine-versed-requires : goal.versine-versed-requires
versine-versed-requires c =
    let e = on c.args.k c.args.de c.args.dn c.requires c.ranges.de c.ranges.dn c.is_on_map.ensures (passed _ 3 c.in_ok-unless.ensures) in
    let o = sizes c.args.k c.args.de c.args.dn c.requires c.ranges.de c.ranges.dn e in
    rw (
      x-read c.args.k c.args.de c.args.dn c.requires c.ranges.de c.ranges.dn c.quotient-x.type_inv c.quotient-x.ensures,
      y-read c.args.k c.args.de c.args.dn c.requires c.ranges.de c.ranges.dn c.quotient-y.type_inv c.quotient-y.ensures,
    )
    (o.X-size, o.Y-size)

pub overflow_sub-versed : goal.overflow_sub-versed
overflow_sub-versed c =
    let k : Constants = c.args.k in
    let e = on k c.args.de c.args.dn c.requires c.ranges.de c.ranges.dn c.is_on_map.ensures (passed _ 3 c.in_ok-unless.ensures) in
    let x = x-read k c.args.de c.args.dn c.requires c.ranges.de c.ranges.dn c.quotient-x.type_inv c.quotient-x.ensures in
    let y = y-read k c.args.de c.args.dn c.requires c.ranges.de c.ranges.dn c.quotient-y.type_inv c.quotient-y.ensures in
    let v = K-read k c.args.de c.args.dn c.requires c.ranges.de c.ranges.dn c.quotient-x.result c.quotient-y.result c.versine-versed.type_inv c.versine-versed.ensures x y in
    G-fits k c.args.de c.args.dn c.requires c.ranges.de c.ranges.dn c.versine-versed.result e v

pub returns-in_err-unless-2 : goal.returns-in_err-unless-2
returns-in_err-unless-2 c =
    let k : Constants = c.args.k in
    let e = on k c.args.de c.args.dn c.requires c.ranges.de c.ranges.dn c.is_on_map.ensures (passed _ 3 c.in_ok-unless.ensures) in
    let x = x-read k c.args.de c.args.dn c.requires c.ranges.de c.ranges.dn c.quotient-x.type_inv c.quotient-x.ensures in
    let y = y-read k c.args.de c.args.dn c.requires c.ranges.de c.ranges.dn c.quotient-y.type_inv c.quotient-y.ensures in
    let v = K-read k c.args.de c.args.dn c.requires c.ranges.de c.ranges.dn c.quotient-x.result c.quotient-y.result c.versine-versed.type_inv c.versine-versed.ensures x y in
    let r = err_from_is_err_and c.from_residual-in_err-unless-2.result c.from_residual-in_err-unless-2.ensures.1 in
    let f = failed _ too_far_number _ c.in_err-unless-2.ensures in
    rw (r.1, r.2, f.1)
    (outcome_is _ _ _ (too_far
    (at k c.args.de c.args.dn c.requires c.ranges.de c.ranges.dn c.is_origin.ensures c.if-is_origin.false)
    e
    (sym (tested k c.args.de c.args.dn c.requires c.ranges.de c.ranges.dn c.versine-versed.result e v) ∙ f.0)))

pub returns : goal.returns
returns c =
    let k : Constants = c.args.k in
    let e = on k c.args.de c.args.dn c.requires c.ranges.de c.ranges.dn c.is_on_map.ensures (passed _ 3 c.in_ok-unless.ensures) in
    let x = x-read k c.args.de c.args.dn c.requires c.ranges.de c.ranges.dn c.quotient-x.type_inv c.quotient-x.ensures in
    let y = y-read k c.args.de c.args.dn c.requires c.ranges.de c.ranges.dn c.quotient-y.type_inv c.quotient-y.ensures in
    let v = K-read k c.args.de c.args.dn c.requires c.ranges.de c.ranges.dn c.quotient-x.result c.quotient-y.result c.versine-versed.type_inv c.versine-versed.ensures x y in
    rw (x, y, v)
    (outcome_is _ _ _ (stepped
    (at k c.args.de c.args.dn c.requires c.ranges.de c.ranges.dn c.is_origin.ensures c.if-is_origin.false)
    e
    (sym (tested k c.args.de c.args.dn c.requires c.ranges.de c.ranges.dn c.versine-versed.result e v) ∙ passed _ 3 c.in_ok-unless-2.ensures)))
