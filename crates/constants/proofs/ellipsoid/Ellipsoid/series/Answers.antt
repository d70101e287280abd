-- e4, e6 and each term are so small that every sum and product is within 64 bits. Assumes nothing.
use Rattle.std.proofs.Common.{◌≡◌, ℕ, ◌<◌, ◌^◌, ℤ, pos, ◌+ℤ◌, ◌*ℤ◌, lit<, ap, ap₂, ◌∙◌, arith}
use lib.Signed.{mag}
use Rattle.proof_kit.proofs.Range.{code, read, kept, returned}
use Rattle.integers.specs.Near.{near}
use Rattle.constants.specs.declared.ellipsoid.Ellipsoid.{Ellipsoid}
use Rattle.constants.specs.Derived.{e4, e6, k2, k4, k6, to_mas, series_of}
use Rattle.constants.proofs.SeriesLaws.{k2_start_size, k2_size, k4_size, k6_size}
use Rattle.billionths.proofs.Calls.{back, fits_is, back_is, near_is}
use Rattle.constants.proofs.ellipsoid.Ellipsoid.series.Goals as goal

module _ (s : Ellipsoid) where
  -- a term near(n·e4/d) or near(n·e6/d), read back
  four : (n d : ℕ) {r : ℤ} → back (pos n *ℤ back s.e4) ≡ pos n *ℤ s.e4 → mag r < 2 ^ 63 → r ≡ near (back (pos n *ℤ back s.e4)) d →
      back r ≡ near (pos n *ℤ e4 s.e2) d
  four n d e fits is = near_is fits d is (e ∙ ap (λ (z : ℤ). pos n *ℤ z) s.fourth)

  six : (n d : ℕ) {r : ℤ} → back (pos n *ℤ back s.e6) ≡ pos n *ℤ s.e6 → mag r < 2 ^ 63 → r ≡ near (back (pos n *ℤ back s.e6)) d →
      back r ≡ near (pos n *ℤ e6 s.e2) d
  six n d e fits is = near_is fits d is (e ∙ ap (λ (z : ℤ). pos n *ℤ z) s.sixth)

  -- k2 from its three terms, and k4 from its two
  k2-start : (a b : ℤ) → mag a < 2 ^ 63 → a ≡ near (back s.e2) 3 → mag b < 2 ^ 63 → b ≡ near (back (pos 31 *ℤ back s.e4)) 180 →
      back a +ℤ back b ≡ near s.e2 3 +ℤ near (pos 31 *ℤ e4 s.e2) 180
  k2-start a b fa ea fb eb =
      ap₂ ◌+ℤ◌ (near_is fa 3 ea (kept s.e2 s.e2_size (lit< tt))) (four 31 180 (read (search (code, s.e4_size) depth 40 fits 20000) tt) fb eb)

  k2-is : (a b d : ℤ) → back a +ℤ back b ≡ near s.e2 3 +ℤ near (pos 31 *ℤ e4 s.e2) 180 → mag d < 2 ^ 63 →
      d ≡ near (back (pos 59 *ℤ back s.e6)) 560 → back (back a +ℤ back b) +ℤ back d ≡ k2 s.e2
  unfolding k2
  k2-is a b d start fd ed =
      ap₂ ◌+ℤ◌ (back_is start (k2_start_size s.e2 s.e2_size) (lit< tt)) (six 59 560 (read (search (code, s.e6_size) depth 40 fits 20000) tt) fd ed)

  k4-is : (a b : ℤ) → mag a < 2 ^ 63 → a ≡ near (back (pos 17 *ℤ back s.e4)) 360 → mag b < 2 ^ 63 → b ≡ near (back (pos 61 *ℤ back s.e6)) 1260 →
      back a +ℤ back b ≡ k4 s.e2
  unfolding k4
  k4-is a b fa ea fb eb =
      ap₂ ◌+ℤ◌ (four 17 360 (read (search (code, s.e4_size) depth 40 fits 20000) tt) fa ea)
      (six 61 1260 (read (search (code, s.e6_size) depth 40 fits 20000) tt) fb eb)

  k6-is : {a : ℤ} → mag a < 2 ^ 63 → a ≡ near (back (pos 383 *ℤ back s.e6)) 45360 → back a ≡ k6 s.e2
  unfolding k6
  k6-is fa ea = six 383 45360 (read (search (code, s.e6_size) depth 40 fits 20000) tt) fa ea

pub overflow_add-k2 : goal.overflow_add-k2
overflow_add-k2 c =
    let s = c.args.self in
    fits_is (k2-start s c.near.result c.near-2.result c.near.type_inv c.near.ensures c.near-2.type_inv c.near-2.ensures)
    (k2_start_size s.e2 s.e2_size) (lit< tt)

pub overflow_add-k2-2 : goal.overflow_add-k2-2
overflow_add-k2-2 c =
    let s = c.args.self in
    let start = k2-start s c.near.result c.near-2.result c.near.type_inv c.near.ensures c.near-2.type_inv c.near-2.ensures in
    fits_is (k2-is s c.near.result c.near-2.result c.near-3.result start c.near-3.type_inv c.near-3.ensures) (k2_size s.e2 s.e2_size) (lit< tt)

pub overflow_add-k4 : goal.overflow_add-k4
overflow_add-k4 c =
    let s = c.args.self in
    fits_is (k4-is s c.near-4.result c.near-5.result c.near-4.type_inv c.near-4.ensures c.near-5.type_inv c.near-5.ensures) (k4_size s.e2 s.e2_size) (lit< tt)

pub in_mas-requires : goal.in_mas-requires
in_mas-requires c =
    let s = c.args.self in
    let start = k2-start s c.near.result c.near-2.result c.near.type_inv c.near.ensures c.near-2.type_inv c.near-2.ensures in
    rw (back_is (k2-is s c.near.result c.near-2.result c.near-3.result start c.near-3.type_inv c.near-3.ensures) (k2_size s.e2 s.e2_size) (lit< tt))
    (omega (arith, k2_size s.e2 s.e2_size))

pub in_mas-requires-2 : goal.in_mas-requires-2
in_mas-requires-2 c =
    let s = c.args.self in
    rw (back_is (k4-is s c.near-4.result c.near-5.result c.near-4.type_inv c.near-4.ensures c.near-5.type_inv c.near-5.ensures) (k4_size s.e2 s.e2_size) (lit< tt))
    (omega (arith, k4_size s.e2 s.e2_size))

pub in_mas-requires-3 : goal.in_mas-requires-3
in_mas-requires-3 c =
    let s = c.args.self in
    rw (k6-is s c.near-k6.type_inv c.near-k6.ensures) (omega (arith, k6_size s.e2 s.e2_size))

pub returns : goal.returns
unfolding series_of
returns c =
    let s = c.args.self in
    let start = k2-start s c.near.result c.near-2.result c.near.type_inv c.near.ensures c.near-2.type_inv c.near-2.ensures in
    rw (
      returned c.in_mas.type_inv ∙ c.in_mas.ensures
          ∙ ap to_mas (back_is (k2-is s c.near.result c.near-2.result c.near-3.result start c.near-3.type_inv c.near-3.ensures) (k2_size s.e2 s.e2_size) (lit< tt)),
      returned c.in_mas-2.type_inv ∙ c.in_mas-2.ensures
          ∙ ap to_mas (back_is (k4-is s c.near-4.result c.near-5.result c.near-4.type_inv c.near-4.ensures c.near-5.type_inv c.near-5.ensures) (k4_size s.e2 s.e2_size) (lit< tt)),
      returned c.in_mas-3.type_inv ∙ c.in_mas-3.ensures ∙ ap to_mas (k6-is s c.near-k6.type_inv c.near-k6.ensures),
    )
