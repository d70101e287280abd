-- At a pole D is U; elsewhere φ0 is at most 85° from the Equator, and there the divisor is above 0. Assumes nothing.
use Rattle.std.proofs.Common.{◌≡◌, ◌≤◌, ◌<◌, ◌^◌, ℤ, nat_abs, ◌*ℤ◌, lit<, sym, ◌∙◌, arith}
use lib.Signed.{mag}
use Rattle.proof_kit.proofs.Range.{returned}
use Rattle.integers.specs.Near.{near}
use Rattle.units.specs.Units.{unit}
use Rattle.latitudes.specs.declared.Geodetic.{Geodetic}
use Rattle.parameters.proofs.AcceptedSet.{lat0_size}
use Rattle.constants.specs.Derived.{J, C0, m, D}
use Rattle.constants.proofs.SeriesLaws.{at_least, J-high}
use Rattle.constants.proofs.ScaleLaws.{C0-size, m_size, j_between, oblique}
use Rattle.billionths.proofs.Calls.{back, back_is, product_is, quotient_is}
use Rattle.constants.proofs.ellipsoid.Ellipsoid.axis_ratio.Goals as goal

-- the parameters and the results of the calls, read back
module _ (e2 : ℤ) (φ0 : Geodetic) (small : nat_abs e2 ≤ 10_000_000) where
  j-is : {j : ℤ} → j ≡ J e2 → back j ≡ J e2
  j-is e = back_is e (J-high e2 small) (lit< tt)

  c0-is : {c0 : ℤ} → c0 ≡ C0 e2 φ0 → back c0 ≡ C0 e2 φ0
  c0-is e = back_is e (C0-size e2 φ0) (lit< tt)

  m-is : {r : ℤ} → mag r < 2 ^ 63 → r ≡ m e2 φ0 → back r ≡ m e2 φ0
  m-is fits is = returned fits ∙ is

  divisor-is : {r j c0 : ℤ} → mag r < 2 ^ 63 → r ≡ near (back j *ℤ back c0) unit → j ≡ J e2 → c0 ≡ C0 e2 φ0 → back r ≡ near (J e2 *ℤ C0 e2 φ0) unit
  divisor-is fits is ej ec = product_is fits is (j-is ej) (c0-is ec)

pub returns-then-is_pole : goal.returns-then-is_pole
unfolding D
returns-then-is_pole c = rw (sym c.is_pole.ensures ∙ c.if-is_pole.true)

pub parallel_ratio-requires : goal.parallel_ratio-requires
parallel_ratio-requires c = lat0_size c.args.lat0 c.requires.0

pub product-requires : goal.product-requires
product-requires c =
    rw (j-is c.args.self.e2 c.args.lat0 c.args.self.e2_size c.requires.1, c0-is c.args.self.e2 c.args.lat0 c.args.self.e2_size c.requires.2)
    (omega (arith, J-high c.args.self.e2 c.args.self.e2_size), omega (arith, C0-size c.args.self.e2 c.args.lat0))

pub quotient-requires : goal.quotient-requires
quotient-requires c =
    let e2 : ℤ = c.args.self.e2 in
    let φ0 = c.args.lat0 in
    let far = oblique φ0 c.requires.0 (sym c.is_pole.ensures ∙ c.if-is_pole.false) in
    let j = j_between e2 φ0 c.args.self.e2_size far in
    let m-small = m_size e2 φ0 c.args.self.e2_size far in
    rw (
      m-is e2 φ0 c.args.self.e2_size c.parallel_ratio.type_inv c.parallel_ratio.ensures,
      divisor-is e2 φ0 c.args.self.e2_size c.product.type_inv c.product.ensures c.requires.1 c.requires.2,
    )
    (omega (arith, m-small), at_least 1 j.natural (omega arith), omega arith)

pub returns : goal.returns
unfolding D
returns c =
    let e2 : ℤ = c.args.self.e2 in
    let φ0 = c.args.lat0 in
    rw (sym c.is_pole.ensures ∙ c.if-is_pole.false)
    (quotient_is c.quotient.type_inv c.quotient.ensures (m-is e2 φ0 c.args.self.e2_size c.parallel_ratio.type_inv c.parallel_ratio.ensures)
    (divisor-is e2 φ0 c.args.self.e2_size c.product.type_inv c.product.ensures c.requires.1 c.requires.2))
