-- A number that a call takes is read back from its bits: one that fits comes back as it was, so it keeps its size.
-- Assumes nothing.
use Prim.Native.Nat.{ℕ, ◌≤◌, ◌<◌, ◌^◌}
use native.Mathlib.Nat.{le_trans}
use lib.IntN.{ℤ, nat_abs}
use mir.Syntax.{w64}
use mir.Val.{to_z, of_z}
use Rattle.proof_kit.proofs.Range.{kept}

pub read_size : (z : ℤ) {n m : ℕ} → nat_abs z ≤ n → n < 2 ^ 63 → n ≤ m → nat_abs (to_z w64 (of_z w64 z)) ≤ m
read_size z h room le = rw (kept z h room) (le_trans h le)
