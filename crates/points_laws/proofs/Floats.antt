-- Two whole numbers within the limits of their coordinates, and the floats that stand for them. One rounded division of a whole number within a
-- limit is finite and within the limit, and near of its product is the number again; so a pair of such floats passes the tests of the calls, and
-- taken back it is the two numbers. Said once for positions and for plane points. Assumes nothing.
use mathlib.Core.Path.{◌≡◌, ap, ◌∙◌}
use mathlib.Core.Bool.{true, ◌&&◌}
use Prim.Native.Nat.{ℕ, ◌≤◌}
use lib.IntN.{ℤ, nat_abs}
use lib.Ieee.{Float}
use Rattle.floats.specs.Conversion.{whole_of, float_of}
use Rattle.floats.specs.Limits.{is_finite, within_limit}
use Rattle.floats.specs.InnerKinds.{Coordinate}
use Rattle.floats.proofs.Coordinates.{float_finite, float_within, float_back}
use Rattle.pairs.specs.Pairs.{are_finite}

-- a and b within the limits, and their floats
pub record Floats {m n : ℕ} {limit limit' : Float} {most most' : ℕ} (one : Coordinate m limit most) (other : Coordinate n limit' most') (a b : ℤ)
    (x y : Float) : Type 0 where
  pub first_size : nat_abs a ≤ most
  pub second_size : nat_abs b ≤ most'
  pub first_is : x ≡ float_of m a
  pub second_is : y ≡ float_of n b

module _ {m n : ℕ} {limit limit' : Float} {most most' : ℕ} {one : Coordinate m limit most} {other : Coordinate n limit' most'} {a b : ℤ} {x y : Float}
    (f : Floats one other a b x y) where
  pub each_finite : (is_finite x ≡ true) × (is_finite y ≡ true)
  each_finite = rw (f.first_is, f.second_is) (float_finite one a f.first_size, float_finite other b f.second_size)

  pub both_finite : are_finite x y ≡ true
  unfolding are_finite
  both_finite = rw (each_finite.0, each_finite.1)

  pub both_within : (within_limit limit x && within_limit limit' y) ≡ true
  both_within = rw (f.first_is, f.second_is, float_within one a f.first_size, float_within other b f.second_size)

  pub first_back : whole_of m x ≡ a
  first_back = ap (whole_of m) f.first_is ∙ float_back one a f.first_size

  pub second_back : whole_of n y ≡ b
  second_back = ap (whole_of n) f.second_is ∙ float_back other b f.second_size
