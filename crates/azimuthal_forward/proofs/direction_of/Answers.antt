-- Each call gives the paper's next quantity, and every one is at most 2 units in size. Assumes nothing.
use Rattle.std.proofs.Common.{◌≡◌, ◌≤◌, ◌<◌, ◌^◌, ℤ, nat_abs, ◌+ℤ◌, ◌-ℤ◌, ◌*ℤ◌, lit<, ap, ◌∙◌}
use lib.Dec.{lit≤}
use lib.Signed.{mag}
use mir.Syntax.{w64}
use mir.Val.{SFits}
use mir.Facts.{to_z-of_z}
use Rattle.integers.specs.Near.{near}
use Rattle.units.specs.Units.{unit, U}
use Rattle.trig.specs.Sine.{sine, cosine}
use Rattle.trig.proofs.Interface.{sine_size, cosine_size}
use Rattle.latitudes.specs.declared.Authalic.{Authalic}
use Rattle.latitudes.specs.declared.Geodetic.{Geodetic}
use Rattle.latitudes.specs.Latitude.{beta}
use Rattle.constants.specs.declared.Constants.{Constants}
use Rattle.constants.specs.InnerPrepared.{BoundedCentre}
use Rattle.billionths.proofs.Calls.{back, back_is, fits_is, near_is, product_is, Holds, holds, given_holds}
use Rattle.azimuthal_forward.specs.Steps
use Rattle.azimuthal_forward.specs.Steps.{b, u, v, w, G, direction_of}
use Rattle.azimuthal_forward.proofs.ForwardLaws.{v_size, G-size}
use Rattle.azimuthal_forward.proofs.direction_of.Goals as goal

-- a field that a call gave is read back as it was
field-holds : {x y : ℤ} → x ≡ y → nat_abs y ≤ unit → Holds x y
field-holds e h = holds (back_is e h (lit< tt)) h (lit≤ tt)

module _ (k : Constants) (φ : Geodetic) (Δ : ℤ) where
  -- b and c, of the β that a call gave, and sine and cosine of Δ
  b-holds : {s : ℤ} {β : Authalic} → s ≡ sine β.0 → β ≡ beta k.series φ → Holds s (b k φ Δ)
  unfolding b
  b-holds is e = field-holds (is ∙ ap (λ (x : Authalic). sine x.0) e) (sine_size _)

  c-holds : {s : ℤ} {β : Authalic} → s ≡ cosine β.0 → β ≡ beta k.series φ → Holds s (Steps.c k φ Δ)
  unfolding Steps.c
  c-holds is e = field-holds (is ∙ ap (λ (x : Authalic). cosine x.0) e) (cosine_size _)

  sine-Δ : {s : ℤ} → s ≡ sine (back Δ) → SFits w64 Δ → Holds s (sine Δ)
  sine-Δ is fits = field-holds (is ∙ ap sine (to_z-of_z fits)) (sine_size _)

  cosine-Δ : {s : ℤ} → s ≡ cosine (back Δ) → SFits w64 Δ → Holds s (cosine Δ)
  cosine-Δ is fits = field-holds (is ∙ ap cosine (to_z-of_z fits)) (cosine_size _)

  u-read : {r x y : ℤ} → mag r < 2 ^ 63 → r ≡ near (back x *ℤ back y) unit → Holds x (Steps.c k φ Δ) → Holds y (sine Δ) → back r ≡ u k φ Δ
  unfolding u
  u-read fits is x y = product_is fits is x.is y.is

  v-holds : {r x y : ℤ} → mag r < 2 ^ 63 → r ≡ near (back x *ℤ back y) unit → Holds x (Steps.c k φ Δ) → Holds y (cosine Δ) → Holds r (v k φ Δ)
  unfolding v
  v-holds fits is x y = holds (product_is fits is x.is y.is) (v_size k φ Δ) (lit≤ tt)

  -- with the centre's sine and cosine, w and G of the numbers x and y that b and v are
  module _ (centre : BoundedCentre k) where
    s0-holds : Holds k.s0 k.s0
    s0-holds = given_holds centre.s0_size (lit≤ tt)

    c0-holds : Holds k.c0 k.c0
    c0-holds = given_holds centre.c0_size (lit≤ tt)

    w-read : {r x y : ℤ} → mag r < 2 ^ 63 → r ≡ near (back k.c0 *ℤ back x -ℤ back k.s0 *ℤ back y) unit →
        Holds x (b k φ Δ) → Holds y (v k φ Δ) → back r ≡ w k φ Δ
    unfolding w
    w-read fits is x y = near_is fits unit is (rw (c0-holds.is, x.is, s0-holds.is, y.is))

    G-is : {r x y : ℤ} → mag r < 2 ^ 63 → r ≡ near (back k.s0 *ℤ back x +ℤ back k.c0 *ℤ back y) unit →
        Holds x (b k φ Δ) → Holds y (v k φ Δ) → U +ℤ back r ≡ G k φ Δ
    unfolding G
    G-is fits is x y = ap (λ (z : ℤ). U +ℤ z) (near_is fits unit is (rw (s0-holds.is, x.is, c0-holds.is, y.is)))

pub product-v-requires : goal.product-v-requires
product-v-requires c = (
  (c-holds c.args.k c.args.lat c.args.d c.sine_cosine-on.ensures.1 c.to_authalic-beta.ensures).small,
  (cosine-Δ c.args.k c.args.lat c.args.d c.sine_cosine-turn.ensures.1 c.ranges.d).small,
)

pub product-requires : goal.product-requires
product-requires c = (
  (c-holds c.args.k c.args.lat c.args.d c.sine_cosine-on.ensures.1 c.to_authalic-beta.ensures).small,
  (sine-Δ c.args.k c.args.lat c.args.d c.sine_cosine-turn.ensures.0 c.ranges.d).small,
)

pub difference-requires : goal.difference-requires
difference-requires c =
    let k = c.args.k in
    let x = b-holds k c.args.lat c.args.d c.sine_cosine-on.ensures.0 c.to_authalic-beta.ensures in
    let y = v-holds k c.args.lat c.args.d c.product-v.type_inv c.product-v.ensures
    (c-holds k c.args.lat c.args.d c.sine_cosine-on.ensures.1 c.to_authalic-beta.ensures)
    (cosine-Δ k c.args.lat c.args.d c.sine_cosine-turn.ensures.1 c.ranges.d) in
    ((c0-holds k c.args.lat c.args.d c.requires.1).small, x.small, (s0-holds k c.args.lat c.args.d c.requires.1).small, y.small)

pub sum-requires : goal.sum-requires
sum-requires c =
    let k = c.args.k in
    let x = b-holds k c.args.lat c.args.d c.sine_cosine-on.ensures.0 c.to_authalic-beta.ensures in
    let y = v-holds k c.args.lat c.args.d c.product-v.type_inv c.product-v.ensures
    (c-holds k c.args.lat c.args.d c.sine_cosine-on.ensures.1 c.to_authalic-beta.ensures)
    (cosine-Δ k c.args.lat c.args.d c.sine_cosine-turn.ensures.1 c.ranges.d) in
    ((s0-holds k c.args.lat c.args.d c.requires.1).small, x.small, (c0-holds k c.args.lat c.args.d c.requires.1).small, y.small)

pub overflow_add-result : goal.overflow_add-result
overflow_add-result c =
    let k = c.args.k in
    let x = b-holds k c.args.lat c.args.d c.sine_cosine-on.ensures.0 c.to_authalic-beta.ensures in
    let y = v-holds k c.args.lat c.args.d c.product-v.type_inv c.product-v.ensures
    (c-holds k c.args.lat c.args.d c.sine_cosine-on.ensures.1 c.to_authalic-beta.ensures)
    (cosine-Δ k c.args.lat c.args.d c.sine_cosine-turn.ensures.1 c.ranges.d) in
    fits_is (G-is k c.args.lat c.args.d c.requires.1 c.sum.type_inv c.sum.ensures x y) (G-size _ c.requires.1 _ _) (lit< tt)

pub returns : goal.returns
unfolding direction_of
returns c =
    let k = c.args.k in
    let x = b-holds k c.args.lat c.args.d c.sine_cosine-on.ensures.0 c.to_authalic-beta.ensures in
    let on = c-holds k c.args.lat c.args.d c.sine_cosine-on.ensures.1 c.to_authalic-beta.ensures in
    let y = v-holds k c.args.lat c.args.d c.product-v.type_inv c.product-v.ensures on
    (cosine-Δ k c.args.lat c.args.d c.sine_cosine-turn.ensures.1 c.ranges.d) in
    rw (
      u-read k c.args.lat c.args.d c.product.type_inv c.product.ensures on (sine-Δ k c.args.lat c.args.d c.sine_cosine-turn.ensures.0 c.ranges.d),
      w-read k c.args.lat c.args.d c.requires.1 c.difference.type_inv c.difference.ensures x y,
      back_is (G-is k c.args.lat c.args.d c.requires.1 c.sum.type_inv c.sum.ensures x y) (G-size _ c.requires.1 _ _) (lit< tt),
    )
