-- W is near U, since the three terms taken from U are small. Assumes nothing.
use Rattle.std.proofs.Common.{◌≡◌, ◌<◌, ◌^◌, ℤ, pos, ◌-ℤ◌, lit<, arith}
use Prim.Native.Nat.{zero-le}
use lib.Signed.{mag}
use Rattle.proof_kit.proofs.Range.{code, fits, read, kept}
use Rattle.integers.specs.Near.{near}
use Rattle.units.specs.Units.{unit}
use Rattle.constants.specs.declared.ellipsoid.Ellipsoid.{Ellipsoid}
use Rattle.constants.specs.Derived.{e4, e6, W, J}
use Rattle.constants.proofs.SeriesLaws.{About, at_least, e4_size, e6_size, third, fifteenth, thirty_fifth, W-about}
use Rattle.billionths.proofs.Calls.{back, fits_is, back_is, near_is, unit_root_is}
use Rattle.constants.proofs.ellipsoid.Ellipsoid.radius_ratio.Goals as goal

-- the three terms, read back, and what is left of U, which is W
module _ (s : Ellipsoid) where
  third-is : {r : ℤ} → mag r < 2 ^ 63 → r ≡ near (back s.e2) 3 → back r ≡ near s.e2 3
  third-is fits is = near_is fits 3 is (kept s.e2 s.e2_size (lit< tt))

  fifteenth-is : {r : ℤ} → mag r < 2 ^ 63 → r ≡ near (back s.e4) 15 → back r ≡ near (e4 s.e2) 15
  fifteenth-is fits is = near_is fits 15 is (back_is s.fourth (e4_size s.e2 s.e2_size) (lit< tt))

  thirty-fifth-is : {r : ℤ} → mag r < 2 ^ 63 → r ≡ near (back s.e6) 35 → back r ≡ near (e6 s.e2) 35
  thirty-fifth-is fits is = near_is fits 35 is (back_is s.sixth (e6_size s.e2 s.e2_size) (lit< tt))

  w-is : (a b d : ℤ) → back a ≡ near s.e2 3 → back b ≡ near (e4 s.e2) 15 → back d ≡ near (e6 s.e2) 35 →
      back (back (pos unit -ℤ back a) -ℤ back b) -ℤ back d ≡ W s.e2
  unfolding W
  w-is a b d ea eb ed =
      rw (ea, eb, ed)
      (read (search (code, third s.e2 s.e2_size, fifteenth s.e2 s.e2_size, thirty_fifth s.e2 s.e2_size) depth 40 fits 20000) tt)

  w-about : About (W s.e2) unit 3_340_029
  w-about = W-about s.e2 s.e2_size

pub overflow_sub-near : goal.overflow_sub-near
overflow_sub-near c =
    let s = c.args.self in
    rw (third-is s c.near.type_inv c.near.ensures) (fits (search (code, third s.e2 s.e2_size) depth 40 fits 20000) tt)

pub overflow_sub-near-2 : goal.overflow_sub-near-2
overflow_sub-near-2 c =
    let s = c.args.self in
    rw (third-is s c.near.type_inv c.near.ensures, fifteenth-is s c.near-2.type_inv c.near-2.ensures)
    (fits (search (code, third s.e2 s.e2_size, fifteenth s.e2 s.e2_size) depth 40 fits 20000) tt)

pub overflow_sub-near-3 : goal.overflow_sub-near-3
overflow_sub-near-3 c =
    let s = c.args.self in
    fits_is (w-is s c.near.result c.near-2.result c.near-3.result (third-is s c.near.type_inv c.near.ensures)
    (fifteenth-is s c.near-2.type_inv c.near-2.ensures) (thirty-fifth-is s c.near-3.type_inv c.near-3.ensures)) (w-about s).high (lit< tt)

pub unit_root-requires : goal.unit_root-requires
unit_root-requires c =
    let s = c.args.self in
    let w = w-about s in
    rw (back_is (w-is s c.near.result c.near-2.result c.near-3.result (third-is s c.near.type_inv c.near.ensures)
    (fifteenth-is s c.near-2.type_inv c.near-2.ensures) (thirty-fifth-is s c.near-3.type_inv c.near-3.ensures)) w.high (lit< tt))
    (at_least 0 w.same zero-le, omega arith)

pub returns : goal.returns
unfolding J
returns c =
    let s = c.args.self in
    unit_root_is c.unit_root.type_inv c.unit_root.ensures
    (back_is (w-is s c.near.result c.near-2.result c.near-3.result (third-is s c.near.type_inv c.near.ensures)
    (fifteenth-is s c.near-2.type_inv c.near-2.ensures) (thirty-fifth-is s c.near-3.type_inv c.near-3.ensures)) (w-about s).high (lit< tt))
