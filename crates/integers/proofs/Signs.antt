-- The size of a number that an i64 holds. Assumes nothing.
use Prim.Native.Nat.{◌≤◌, ◌^◌}
use native.Mathlib.Nat.{le_of_lt}
use lib.IntN.{ℤ, pos, negsuc, nat_abs}
use mir.Syntax.{w64}
use mir.Val.{SFits}

-- it is at most 2^63
pub size_fits : (z : ℤ) → SFits w64 z → nat_abs z ≤ 2 ^ 63
size_fits (pos a) s = le_of_lt s.sfits
size_fits (negsuc a) s = s.sfits
