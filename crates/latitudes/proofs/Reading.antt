-- A latitude as the code reads it: within ±90° it is read back from 64 bits as it was. Assumes nothing.
use mathlib.Core.Path.{◌≡◌}
use Prim.Native.Nat.{◌≤◌}
use lib.Dec.{lit<}
use lib.IntN.{ℤ, nat_abs}
use mir.Syntax.{w64}
use mir.Val.{to_z, of_z}
use Rattle.proof_kit.proofs.Range.{kept}
use Rattle.units.specs.Units.{right_angle}

abbrev back : ℤ → ℤ
back z = to_z w64 (of_z w64 z)

pub latitude_read : (x : ℤ) → nat_abs x ≤ right_angle → back x ≡ x
latitude_read x h = kept x h (lit< tt)
