-- e4 and e6 are the paper's, and small because e2 is. Assumes nothing.
use Rattle.std.proofs.Common.{◌≡◌, ◌≤◌, ◌<◌, ◌^◌, ℤ, nat_abs, ◌*ℤ◌, lit<, sym, ap, ◌∙◌, arith}
use lib.Signed.{mag}
use Rattle.proof_kit.proofs.Range.{kept}
use Rattle.integers.specs.Near.{near}
use Rattle.units.specs.Units.{unit}
use Rattle.constants.specs.Derived.{e4, e6}
use Rattle.constants.proofs.SeriesLaws.{e4_size, e6_size}
use Rattle.billionths.proofs.Calls.{back, product_is}
use Rattle.constants.proofs.ellipsoid.Ellipsoid.new.Goals as goal

module _ (e2 : ℤ) (small : nat_abs e2 ≤ 10_000_000) where
  e2-is : back e2 ≡ e2
  e2-is = kept e2 small (lit< tt)

  e4-is : {r : ℤ} → mag r < 2 ^ 63 → r ≡ near (back e2 *ℤ back e2) unit → back r ≡ e4 e2
  unfolding e4
  e4-is fits is = product_is fits is e2-is e2-is

  e6-is : {r : ℤ} (four : ℤ) → mag r < 2 ^ 63 → r ≡ near (back four *ℤ back e2) unit → back four ≡ e4 e2 → back r ≡ e6 e2
  unfolding e6
  e6-is four fits is e = product_is fits is e e2-is

pub product-requires : goal.product-requires
product-requires c =
    rw (e4-is c.args.e2 c.requires c.product-e4.type_inv c.product-e4.ensures, e2-is c.args.e2 c.requires)
    (omega (arith, e4_size c.args.e2 c.requires), omega (arith, c.requires))

pub invariant_of-result : goal.invariant_of-result
invariant_of-result c =
    let four = e4-is c.args.e2 c.requires c.product-e4.type_inv c.product-e4.ensures in
    let six = e6-is c.args.e2 c.requires c.product-e4.result c.product.type_inv c.product.ensures four in
    let is = sym (e2-is c.args.e2 c.requires) in
    record {
      fourth = four ∙ ap e4 is;
      sixth = six ∙ ap e6 is;
      e2_size = rw (← is) c.requires;
      e4_size = rw four (e4_size c.args.e2 c.requires);
      e6_size = rw six (e6_size c.args.e2 c.requires);
    }
