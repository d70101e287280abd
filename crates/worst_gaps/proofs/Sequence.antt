-- The positions of the sequence lie on the globe: a number spread from −most to most is a remainder by most + 1, with a sign. Assumes nothing.
use Prim.Native.Nat.{ℕ, ◌+◌, ◌/◌, ◌%◌, ◌<◌, ◌≤◌}
use native.Mathlib.Nat.{mod-lt}
use native.Mathlib.Omega.{arith}
use lib.Dec.{eqb}
use lib.IntN.{nat_abs}
use Rattle.sphere_points.proofs.AngleLaws.{signed_size}
use Rattle.worst_gaps.specs.InnerPositions.{spread_of}

pub remainder : (s most : ℕ) → s % (most + 1) ≤ most
remainder s most =
    let positive : 0 < most + 1 = omega arith in
    let below : s % (most + 1) < most + 1 = mod-lt s positive in
    omega (arith, below)

pub spread_size : (s most : ℕ) → nat_abs (spread_of s most) ≤ most
spread_size s most = signed_size (eqb (s / 65_536 % 2) 0) (s % (most + 1)) (remainder s most)
