-- The rounding of the projection's steps, `near`, `root` and H, is what the proof's tools take.
-- Assumes nothing.
use mathlib.Core.Path.{subst}
use Prim.Native.Nat.{ℕ, ◌+◌, ◌*◌, ◌<◌}
use lib.Dec.{lit<}
use lib.IntN.{ℤ, pos, nat_abs, ◌+ℤ◌, ◌*ℤ◌, *ℤ_comm}
use Rattle.proof_kit.proofs.Size.{abs_mul}
use Rattle.integers.specs.Near.{near}
use Rattle.integers.specs.Root.{root}
use Rattle.integers.proofs.Rounding.{near_close}
use Rattle.integers.proofs.Squares.{root_low, root_high}
use Rattle.azimuthal_forward.specs.Steps.{H}
use Rattle.round_trip.proofs.Numerals.{unit, half}
use Rattle.round_trip.proofs.Tools.{Near, Root, squares}

-- near is a rounded quotient
pub near_near : (n : ℤ) (d : ℕ) → 0 < d → Near d (near n d) n
near_near n d h = rw (*ℤ_comm (pos d) (near n d)) (near_close n d h)

-- and so is that of a divisor by U
pub near_unit : (n : ℤ) → Near unit (near n unit) n
near_unit n = near_near n unit (lit< tt)

-- root is a rounded root
root_root : (n : ℕ) → Root n (root n)
root_root n = (root_low n, root_high n)

-- a length of two coordinates
pub length_root : (x y : ℤ) → Root (nat_abs x * nat_abs x + nat_abs y * nat_abs y) (root (nat_abs (x *ℤ x +ℤ y *ℤ y)))
length_root x y = rw (squares x y) (root_root (nat_abs x * nat_abs x + nat_abs y * nat_abs y))

-- H is the scale of its number
pub scale_root : (g : ℤ) → Root (nat_abs g * half) (H g)
unfolding H
scale_root g = subst (λ (n : ℕ). Root n (root (nat_abs (g *ℤ pos half)))) (abs_mul g (pos half)) (root_root (nat_abs (g *ℤ pos half)))
