-- Each call gives the paper's number, and for an accepted set each is so small that the next call may take it, and D is above 0.
-- Assumes nothing.
use Rattle.std.proofs.Common.{◌≡◌, ◌≤◌, ◌<◌, ◌^◌, ℤ, nat_abs, ◌*ℤ◌, lit<, sym, ap, ◌∙◌, arith}
use lib.Signed.{mag}
use Rattle.proof_kit.proofs.Range.{kept, returned}
use Rattle.integers.specs.Near.{near}
use Rattle.units.specs.Units.{unit, U, right_angle}
use Rattle.trig.specs.Sine.{sine, cosine}
use Rattle.trig.proofs.Interface.{sine_size, cosine_size}
use Rattle.latitudes.specs.declared.AuthalicSeries.{AuthalicSeries}
use Rattle.latitudes.specs.declared.Authalic.{Authalic}
use Rattle.latitudes.specs.Latitude.{beta}
use Rattle.parameters.specs.declared.Parameters.{Parameters}
use Rattle.parameters.specs.ParameterSet.{set_refusal}
use Rattle.parameters.proofs.AcceptedSet.{Accepted, accepted_fields, lat0_size}
use Rattle.units.proofs.Spans.{Between}
use Rattle.constants.specs.declared.ellipsoid.Ellipsoid.{Ellipsoid}
use Rattle.constants.specs.Derived.{J, series_of, β0, S0, C0, D, Rq, RD, RN, constants_of}
use Rattle.constants.proofs.SeriesLaws.{at_least, J-high, series_small}
use Rattle.constants.proofs.ScaleLaws.{D-between, e2_small, Rq-between}
use Rattle.billionths.proofs.Calls.{back, back_is, product_is, quotient_is}
use Rattle.constants.proofs.constants_of.Goals as goal

-- the fields of the set and the results of the calls, read back
module _ (p : Parameters) (ok : set_refusal p ≡ 0) where
  set : Accepted p
  set = accepted_fields p ok

  e2-size : nat_abs p.e2 ≤ 10_000_000
  e2-size = e2_small p set

  e2-is : back p.e2 ≡ p.e2
  e2-is = kept p.e2 e2-size (lit< tt)

  a-is : back p.a ≡ p.a
  a-is = kept p.a set.a_between.most (lit< tt)

  φ0-size : nat_abs p.lat0.0 ≤ right_angle
  φ0-size = lat0_size p.lat0 set.lat0_accepted

  -- of the ellipsoid whose e2 is as it was read
  j-is : (e : Ellipsoid) {r : ℤ} → mag r < 2 ^ 63 → r ≡ J e.e2 → e.e2 ≡ back p.e2 → back r ≡ J p.e2
  j-is e fits is own = returned fits ∙ is ∙ ap J (own ∙ e2-is)

  series-is : (e : Ellipsoid) {k : AuthalicSeries} → k ≡ series_of e.e2 → e.e2 ≡ back p.e2 → k ≡ series_of p.e2
  series-is e is own = is ∙ ap series_of (own ∙ e2-is)

  β0-is : {b : Authalic} {k : AuthalicSeries} → b ≡ beta k p.lat0 → k ≡ series_of p.e2 → b ≡ β0 p.e2 p.lat0
  unfolding β0
  β0-is is series = is ∙ ap (λ (k : AuthalicSeries). beta k p.lat0) series

  s0-is : {r : ℤ} {b : Authalic} → r ≡ sine b.0 → b ≡ β0 p.e2 p.lat0 → back r ≡ S0 p.e2 p.lat0
  unfolding S0
  s0-is is b = back_is (is ∙ ap (λ (b : Authalic). sine b.0) b) (sine_size _) (lit< tt)

  c0-is : {r : ℤ} {b : Authalic} → r ≡ cosine b.0 → b ≡ β0 p.e2 p.lat0 → back r ≡ C0 p.e2 p.lat0
  unfolding C0
  c0-is is b = back_is (is ∙ ap (λ (b : Authalic). cosine b.0) b) (cosine_size _) (lit< tt)

  d-is : (e : Ellipsoid) {r : ℤ} → mag r < 2 ^ 63 → r ≡ D e.e2 p.lat0 → e.e2 ≡ back p.e2 → back r ≡ D p.e2 p.lat0
  d-is e fits is own = returned fits ∙ is ∙ ap (λ (e2 : ℤ). D e2 p.lat0) (own ∙ e2-is)

  d-between : Between (D p.e2 p.lat0) 930_000_000 1_070_000_000
  d-between = D-between p.e2 p.lat0 e2-size set.lat0_accepted

  rq-is : {r : ℤ} (j : ℤ) → mag r < 2 ^ 63 → r ≡ near (back p.a *ℤ back j) unit → back j ≡ J p.e2 → back r ≡ Rq p
  unfolding Rq
  rq-is j fits is e = product_is fits is a-is e

  rd-is : {r : ℤ} (q d : ℤ) → mag r < 2 ^ 63 → r ≡ near (back q *ℤ back d) unit → back q ≡ Rq p → back d ≡ D p.e2 p.lat0 → back r ≡ RD p
  unfolding RD
  rd-is q d fits is eq ed = product_is fits is eq ed

  rn-is : {r : ℤ} (q d : ℤ) → mag r < 2 ^ 63 → r ≡ near (back q *ℤ U) (nat_abs (back d)) → back q ≡ Rq p → back d ≡ D p.e2 p.lat0 → back r ≡ RN p
  unfolding RN
  rn-is q d fits is eq ed = quotient_is fits is eq ed

pub new-ellipsoid-requires : goal.new-ellipsoid-requires
new-ellipsoid-requires c = rw (e2-is c.args.p c.requires) (e2-size c.args.p c.requires)

pub to_authalic-beta0-requires : goal.to_authalic-beta0-requires
to_authalic-beta0-requires c =
    (rw (series-is c.args.p c.requires c.new-ellipsoid.result c.series-k.ensures c.new-ellipsoid.ensures) (series_small c.args.p.e2 (e2-size c.args.p c.requires)), φ0-size c.args.p c.requires)

pub axis_ratio-d-requires : goal.axis_ratio-d-requires
axis_ratio-d-requires c =
    let b = β0-is c.args.p c.requires c.to_authalic-beta0.ensures (series-is c.args.p c.requires c.new-ellipsoid.result c.series-k.ensures c.new-ellipsoid.ensures) in
    let own = c.new-ellipsoid.ensures ∙ e2-is c.args.p c.requires in (
      (set c.args.p c.requires).lat0_accepted,
      j-is c.args.p c.requires c.new-ellipsoid.result c.radius_ratio-j.type_inv c.radius_ratio-j.ensures c.new-ellipsoid.ensures ∙ sym (ap J own),
      c0-is c.args.p c.requires c.sine_cosine-centre.ensures.1 b ∙ sym (ap (λ (e2 : ℤ). C0 e2 c.args.p.lat0) own),
    )

pub product-rq-requires : goal.product-rq-requires
product-rq-requires c =
    rw (a-is c.args.p c.requires, j-is c.args.p c.requires c.new-ellipsoid.result c.radius_ratio-j.type_inv c.radius_ratio-j.ensures c.new-ellipsoid.ensures)
    (omega (arith, (set c.args.p c.requires).a_between.most), omega (arith, J-high c.args.p.e2 (e2-size c.args.p c.requires)))

pub product-requires : goal.product-requires
product-requires c =
    let j = j-is c.args.p c.requires c.new-ellipsoid.result c.radius_ratio-j.type_inv c.radius_ratio-j.ensures c.new-ellipsoid.ensures in
    rw (rq-is c.args.p c.requires c.radius_ratio-j.result c.product-rq.type_inv c.product-rq.ensures j, d-is c.args.p c.requires c.new-ellipsoid.result c.axis_ratio-d.type_inv c.axis_ratio-d.ensures c.new-ellipsoid.ensures)
    (omega (arith, (Rq-between c.args.p (set c.args.p c.requires)).most), omega (arith, (d-between c.args.p c.requires).most))

pub quotient-requires : goal.quotient-requires
quotient-requires c =
    let j = j-is c.args.p c.requires c.new-ellipsoid.result c.radius_ratio-j.type_inv c.radius_ratio-j.ensures c.new-ellipsoid.ensures in
    let between = d-between c.args.p c.requires in
    rw (rq-is c.args.p c.requires c.radius_ratio-j.result c.product-rq.type_inv c.product-rq.ensures j, d-is c.args.p c.requires c.new-ellipsoid.result c.axis_ratio-d.type_inv c.axis_ratio-d.ensures c.new-ellipsoid.ensures)
    (omega (arith, (Rq-between c.args.p (set c.args.p c.requires)).most), at_least 1 between.natural (omega arith), omega arith)

pub returns : goal.returns
unfolding constants_of
returns c =
    let j = j-is c.args.p c.requires c.new-ellipsoid.result c.radius_ratio-j.type_inv c.radius_ratio-j.ensures c.new-ellipsoid.ensures in
    let q = rq-is c.args.p c.requires c.radius_ratio-j.result c.product-rq.type_inv c.product-rq.ensures j in
    let d = d-is c.args.p c.requires c.new-ellipsoid.result c.axis_ratio-d.type_inv c.axis_ratio-d.ensures c.new-ellipsoid.ensures in
    let b = β0-is c.args.p c.requires c.to_authalic-beta0.ensures (series-is c.args.p c.requires c.new-ellipsoid.result c.series-k.ensures c.new-ellipsoid.ensures) in
    rw (
      series-is c.args.p c.requires c.new-ellipsoid.result c.series-k.ensures c.new-ellipsoid.ensures,
      s0-is c.args.p c.requires c.sine_cosine-centre.ensures.0 b,
      c0-is c.args.p c.requires c.sine_cosine-centre.ensures.1 b,
      rd-is c.args.p c.requires c.product-rq.result c.axis_ratio-d.result c.product.type_inv c.product.ensures q d,
      rn-is c.args.p c.requires c.product-rq.result c.axis_ratio-d.result c.quotient.type_inv c.quotient.ensures q d,
    )
