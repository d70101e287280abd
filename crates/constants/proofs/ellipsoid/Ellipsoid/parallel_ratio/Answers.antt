-- V is near U, since e2 is small, and so is its root, by which m divides. Assumes nothing.
use Rattle.std.proofs.Common.{◌≡◌, ◌≤◌, ◌<◌, ◌^◌, ℤ, pos, nat_abs, ◌-ℤ◌, ◌*ℤ◌, lit<, ap, arith}
use Prim.Native.Nat.{zero-le}
use lib.Signed.{mag}
use Rattle.proof_kit.proofs.Order.{pos-≤ℤ}
use Rattle.proof_kit.proofs.Range.{kept}
use Rattle.integers.specs.Near.{near}
use Rattle.integers.specs.Root.{root}
use Rattle.units.specs.Units.{unit, U}
use Rattle.trig.specs.Sine.{sine, cosine}
use Rattle.trig.proofs.Interface.{sine_size, cosine_size}
use Rattle.latitudes.specs.declared.Geodetic.{Geodetic}
use Rattle.constants.specs.Derived.{«V», m}
use Rattle.constants.proofs.SeriesLaws.{About, at_least}
use Rattle.constants.proofs.ScaleLaws.{square_size, V-about, V-root-least, V-root-most}
use Rattle.billionths.proofs.Calls.{back, fits_is, back_is, product_is, quotient_is, unit_root_is}
use Rattle.constants.proofs.ellipsoid.Ellipsoid.parallel_ratio.Goals as goal

-- the sine and the cosine of an angle, read back
sine-is : {s : ℤ} (x : ℤ) → s ≡ sine x → back s ≡ sine x
sine-is x e = back_is e (sine_size x) (lit< tt)

cosine-is : {s : ℤ} (x : ℤ) → s ≡ cosine x → back s ≡ cosine x
cosine-is x e = back_is e (cosine_size x) (lit< tt)

square-is : {r s : ℤ} (x : ℤ) → mag r < 2 ^ 63 → r ≡ near (back s *ℤ back s) unit → s ≡ sine x → back r ≡ near (sine x *ℤ sine x) unit
square-is x fits is e = product_is fits is (sine-is x e) (sine-is x e)

-- what the calls give for e2 and φ0: r is near(e2·near(s·s/U)/U), where the inner number is q
module _ (e2 : ℤ) (φ0 : Geodetic) (small : nat_abs e2 ≤ 10_000_000) where
  v-about : About («V» e2 φ0) unit 10_000_000
  v-about = V-about e2 φ0 small

  v-is : {r : ℤ} (q : ℤ) → mag r < 2 ^ 63 → r ≡ near (back e2 *ℤ back q) unit → back q ≡ near (sine φ0.0 *ℤ sine φ0.0) unit →
      pos unit -ℤ back r ≡ «V» e2 φ0
  unfolding «V»
  v-is q fits is e = ap (λ (z : ℤ). pos unit -ℤ z) (product_is fits is (kept e2 small (lit< tt)) e)

  root-is : {r : ℤ} (x : ℤ) → mag r < 2 ^ 63 → r ≡ pos (root (nat_abs (back x *ℤ U))) → x ≡ «V» e2 φ0 → back r ≡ pos (root (nat_abs («V» e2 φ0 *ℤ U)))
  root-is x fits is e = unit_root_is fits is (back_is e v-about.high (lit< tt))

pub product-requires : goal.product-requires
product-requires c = rw (sine-is c.args.lat0.0 c.sine_cosine-on.ensures.0) (omega (arith, sine_size c.args.lat0.0))

pub product-v-requires : goal.product-v-requires
product-v-requires c =
    rw (kept c.args.self.e2 c.args.self.e2_size (lit< tt), square-is c.args.lat0.0 c.product.type_inv c.product.ensures c.sine_cosine-on.ensures.0)
    (omega (arith, c.args.self.e2_size, square_size c.args.lat0.0))

pub overflow_sub-v : goal.overflow_sub-v
overflow_sub-v c =
    let square = square-is c.args.lat0.0 c.product.type_inv c.product.ensures c.sine_cosine-on.ensures.0 in
    fits_is (v-is c.args.self.e2 c.args.lat0 c.args.self.e2_size c.product.result c.product-v.type_inv c.product-v.ensures square) (v-about c.args.self.e2 c.args.lat0 c.args.self.e2_size).high (lit< tt)

pub unit_root-requires : goal.unit_root-requires
unit_root-requires c =
    let square = square-is c.args.lat0.0 c.product.type_inv c.product.ensures c.sine_cosine-on.ensures.0 in
    let about = v-about c.args.self.e2 c.args.lat0 c.args.self.e2_size in
    rw (back_is (v-is c.args.self.e2 c.args.lat0 c.args.self.e2_size c.product.result c.product-v.type_inv c.product-v.ensures square) about.high (lit< tt))
    (at_least 0 about.same zero-le, omega arith)

pub quotient-requires : goal.quotient-requires
quotient-requires c =
    let e2 : ℤ = c.args.self.e2 in
    let φ0 = c.args.lat0 in
    let square = square-is c.args.lat0.0 c.product.type_inv c.product.ensures c.sine_cosine-on.ensures.0 in
    let v = v-is e2 φ0 c.args.self.e2_size c.product.result c.product-v.type_inv c.product-v.ensures square in
    rw (cosine-is c.args.lat0.0 c.sine_cosine-on.ensures.1, root-is e2 φ0 c.args.self.e2_size _ c.unit_root.type_inv c.unit_root.ensures v)
    (omega (arith, cosine_size φ0.0), pos-≤ℤ (omega (arith, V-root-least e2 φ0 c.args.self.e2_size)), omega (arith, V-root-most e2 φ0 c.args.self.e2_size))

pub returns : goal.returns
unfolding m
returns c =
    let square = square-is c.args.lat0.0 c.product.type_inv c.product.ensures c.sine_cosine-on.ensures.0 in
    let v = v-is c.args.self.e2 c.args.lat0 c.args.self.e2_size c.product.result c.product-v.type_inv c.product-v.ensures square in
    quotient_is c.quotient.type_inv c.quotient.ensures (cosine-is c.args.lat0.0 c.sine_cosine-on.ensures.1)
    (root-is c.args.self.e2 c.args.lat0 c.args.self.e2_size _ c.unit_root.type_inv c.unit_root.ensures v)
