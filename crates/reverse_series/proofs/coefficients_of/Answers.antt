-- e4 and e6 are those of document 01, and for an e2 of at most 10,000,000 they are so small that each term may be taken; a sum of fewer than three
-- terms has zeros in their places.
use Rattle.std.proofs.Common.{◌≡◌, ℕ, ◌*◌, ◌<◌, ◌≤◌, ◌^◌, refl, ap, ◌∙◌, arith}
use native.Mathlib.Nat.{le_refl, le_trans}
use lib.Dec.{lit<, lit≤}
use lib.IntN.{ℤ, pos, nat_abs, ◌+ℤ◌, ◌*ℤ◌, +ℤ_idr}
use lib.Signed.{mag}
use Rattle.proof_kit.proofs.Range.{kept, returned}
use Rattle.proof_kit.proofs.Size.{abs_mul_le}
use Rattle.integers.specs.Near.{near}
use Rattle.units.specs.Units.{unit}
use Rattle.constants.specs.Derived.{to_mas, e4, e6}
use Rattle.constants.proofs.SeriesLaws.{e4_size, e6_size, third}
use Rattle.billionths.proofs.Calls.{back, near_is, product_is}
use Rattle.reverse_series.specs.InnerSeries.{coefficients_of}
use Rattle.reverse_series.proofs.coefficients_of.Goals as goal

e2_is : (x : ℤ) → nat_abs x ≤ 10_000_000 → back x ≡ x
e2_is x h = kept x h (lit< tt)

-- what the two products gave, of an e2 that is read back
e4_is : (x r : ℤ) → nat_abs x ≤ 10_000_000 → mag r < 2 ^ 63 → r ≡ near (back x *ℤ back x) unit → back r ≡ e4 x
unfolding e4
e4_is x r h ok e = product_is ok e (e2_is x h) (e2_is x h)

e6_is : (x s r : ℤ) → nat_abs x ≤ 10_000_000 → back s ≡ e4 x → mag r < 2 ^ 63 → r ≡ near (back s *ℤ back x) unit → back r ≡ e6 x
unfolding e6
e6_is x s r h f ok e = product_is ok e f (e2_is x h)

pub product-e6-requires : goal.product-e6-requires
product-e6-requires c =
    let e2 = c.args.e2 in
    rw (e4_is e2 c.product-e4.result c.requires c.product-e4.type_inv c.product-e4.ensures, e2_is e2 c.requires)
    (omega (arith, e4_size e2 c.requires), omega (arith, c.requires))

-- a factor and a power of e of these sizes
fits-term : (n : ℕ) (r : ℤ) {x : ℤ} {m : ℕ} → back r ≡ x → nat_abs x ≤ m → n * m ≤ 10_000_000 → nat_abs (pos n *ℤ back r) ≤ 10_000_000
fits-term n r {x} e h l = rw e (le_trans (abs_mul_le (pos n) x (le_refl n) h) l)

-- the two powers of an e2, as the code has them
record Powers (x r4 r6 : ℤ) : Type 0 where
  pub fourth : back r4 ≡ e4 x
  pub sixth : back r6 ≡ e6 x
  pub fourth_fits : (n : ℕ) → n * 100_000 ≤ 10_000_000 → nat_abs (pos n *ℤ back r4) ≤ 10_000_000
  pub sixth_fits : (n : ℕ) → n * 1_000 ≤ 10_000_000 → nat_abs (pos n *ℤ back r6) ≤ 10_000_000

powers : (x r4 r6 : ℤ) → nat_abs x ≤ 10_000_000 → mag r4 < 2 ^ 63 → r4 ≡ near (back x *ℤ back x) unit → mag r6 < 2 ^ 63 →
    r6 ≡ near (back r4 *ℤ back x) unit → Powers x r4 r6
powers x r4 r6 h ok4 e ok6 f =
    let fourth = e4_is x r4 h ok4 e in
    let sixth = e6_is x r4 r6 h fourth ok6 f in
    record {
      fourth = fourth;
      sixth = sixth;
      fourth_fits = λ n l. fits-term n r4 fourth (e4_size x h) l;
      sixth_fits = λ n l. fits-term n r6 sixth (e6_size x h) l;
    }

pub term-requires : goal.term-requires
term-requires c =
    let p = powers c.args.e2 c.product-e4.result c.product-e6.result c.requires c.product-e4.type_inv c.product-e4.ensures c.product-e6.type_inv c.product-e6.ensures in
    (p.fourth_fits 31 (lit≤ tt), lit< tt, lit≤ tt)

pub term-requires-2 : goal.term-requires-2
term-requires-2 c =
    let p = powers c.args.e2 c.product-e4.result c.product-e6.result c.requires c.product-e4.type_inv c.product-e4.ensures c.product-e6.type_inv c.product-e6.ensures in
    (p.sixth_fits 517 (lit≤ tt), lit< tt, lit≤ tt)

third_is : (x r : ℤ) → nat_abs x ≤ 10_000_000 → mag r < 2 ^ 63 → r ≡ near (back x) 3 → back r ≡ near x 3
third_is x r h ok e = near_is ok 3 e (e2_is x h)

small : (r : ℤ) {m : ℕ} → mag r < 2 ^ 63 → nat_abs r ≤ m → nat_abs (back r) ≤ m
small r ok h = rw (returned ok) h

pub in_mas-requires : goal.in_mas-requires
in_mas-requires c =
    let e2 = c.args.e2 in (
      rw (third_is e2 c.near.result c.requires c.near.type_inv c.near.ensures) (le_trans (third e2 c.requires) (lit≤ tt)),
      small c.term.result c.term.type_inv c.term.ensures.1,
      small c.term-2.result c.term-2.type_inv c.term-2.ensures.1,
    )

pub term-requires-3 : goal.term-requires-3
term-requires-3 c =
    let p = powers c.args.e2 c.product-e4.result c.product-e6.result c.requires c.product-e4.type_inv c.product-e4.ensures c.product-e6.type_inv c.product-e6.ensures in
    (p.fourth_fits 23 (lit≤ tt), lit< tt, lit≤ tt)

pub term-requires-4 : goal.term-requires-4
term-requires-4 c =
    let p = powers c.args.e2 c.product-e4.result c.product-e6.result c.requires c.product-e4.type_inv c.product-e4.ensures c.product-e6.type_inv c.product-e6.ensures in
    (p.sixth_fits 251 (lit≤ tt), lit< tt, lit≤ tt)

pub term-requires-5 : goal.term-requires-5
term-requires-5 c =
    let p = powers c.args.e2 c.product-e4.result c.product-e6.result c.requires c.product-e4.type_inv c.product-e4.ensures c.product-e6.type_inv c.product-e6.ensures in
    (p.sixth_fits 761 (lit≤ tt), lit< tt, lit≤ tt)

-- what a call of `term` gave, where x was passed on
term_is : (n d : ℕ) {r x y : ℤ} → mag r < 2 ^ 63 → r ≡ near (pos n *ℤ x) d → x ≡ y → back r ≡ near (pos n *ℤ y) d
term_is n d ok e f = returned ok ∙ e ∙ ap (λ (z : ℤ). near (pos n *ℤ z) d) f

-- what a call of `in_mas` gave, of three numbers that were passed on
in_mas_is : {r x y z x' y' z' : ℤ} → mag r < 2 ^ 63 → r ≡ to_mas (x +ℤ y +ℤ z) → x ≡ x' → y ≡ y' → z ≡ z' → back r ≡ to_mas (x' +ℤ y' +ℤ z')
in_mas_is ok e f g h = returned ok ∙ e ∙ rw (f, g, h)

pub returns : goal.returns
unfolding coefficients_of
returns c =
    let e2 = c.args.e2 in
    let p = powers e2 c.product-e4.result c.product-e6.result c.requires c.product-e4.type_inv c.product-e4.ensures c.product-e6.type_inv c.product-e6.ensures in
    let two : back c.in_mas.result ≡ (coefficients_of e2).two =
    in_mas_is c.in_mas.type_inv c.in_mas.ensures.0 (third_is e2 c.near.result c.requires c.near.type_inv c.near.ensures)
    (term_is 31 180 c.term.type_inv c.term.ensures.0 p.fourth)
    (term_is 517 5_040 c.term-2.type_inv c.term-2.ensures.0 p.sixth) in
    let four : back c.in_mas-2.result ≡ (coefficients_of e2).four =
    in_mas_is c.in_mas-2.type_inv c.in_mas-2.ensures.0
    (term_is 23 360 c.term-3.type_inv c.term-3.ensures.0 p.fourth)
    (term_is 251 3_780 c.term-4.type_inv c.term-4.ensures.0 p.sixth)
    refl
    ∙ ap to_mas (+ℤ_idr _) in
    let six : back c.in_mas-3.result ≡ (coefficients_of e2).six =
    in_mas_is c.in_mas-3.type_inv c.in_mas-3.ensures.0 (term_is 761 45_360 c.term-5.type_inv c.term-5.ensures.0 p.sixth) refl refl
    ∙ ap to_mas (+ℤ_idr _ ∙ +ℤ_idr _) in (
      rw (two, four, six),
      record {
        two_size = small c.in_mas.result c.in_mas.type_inv c.in_mas.ensures.1;
        four_size = small c.in_mas-2.result c.in_mas-2.type_inv c.in_mas-2.ensures.1;
        six_size = small c.in_mas-3.result c.in_mas-3.type_inv c.in_mas-3.ensures.1;
      },
    )
