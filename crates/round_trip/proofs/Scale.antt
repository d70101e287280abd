-- The map's scale: the root of half of U · G, where G is U plus the point's height, or the inverse's value of that.
-- It is between U / √2 and U, and where G is off by κ it is off by λ, as the squares of two roots that are λ apart are more than half of U · κ apart.
-- Assumes nothing.
use Prim.Native.Nat.{ℕ, ◌+◌, ◌*◌, ◌-◌, ◌≤◌, ◌<◌}
use native.Mathlib.Omega.{arith}
use lib.IntN.{pos, ◌-ℤ◌, ◌*ℤ◌, nat_abs}
use Rattle.proof_kit.proofs.Size.{square_le, square_lt, within}
use Rattle.round_trip.proofs.Numerals.{unit, half, κ, Λ, H0}
use Rattle.round_trip.proofs.Tools.{Root}

module _ (G H : ℕ) (root : Root (G * half) H) where
  -- the scale is at least U / √2, rounded down
  pub scale_least : unit ≤ G → H0 ≤ H
  scale_least G-least =
      let l : H0 < H + 1 = square_lt H0 (H + 1) (omega arith) in
      omega arith

  -- it is at most U, but for 13
  pub scale_most : G ≤ 2 * unit + 50 → H ≤ unit + 13
  scale_most G-most = square_le H (unit + 13) (omega arith)

  -- 2 H² is U · G, but for 4 H + 1
  pub scale_square : nat_abs (pos unit *ℤ pos G -ℤ pos 2 *ℤ (pos H *ℤ pos H)) ≤ 4 * H + 1
  scale_square = within (unit * G) (2 * (H * H)) (omega arith) (omega arith)

-- where G is at most κ above g, whose scale h is not far below H0, the scale of G is at most λ above h
scale_rise : (G g H h : ℕ) → G ≤ g + κ → H * H ≤ G * half → g * half < (h + 1) * (h + 1) → H0 ≤ h + 1 + Λ → H ≤ h + Λ
scale_rise G g H h near low high least =
    let l : H < h + 1 + Λ = square_lt H (h + 1 + Λ) (omega arith) in
    omega arith

-- the scales of two numbers that are at most κ apart, of which one is at least U, are at most λ apart
pub scale_close : (G g H h : ℕ) → unit ≤ G → (g ≤ G + κ) × (G ≤ g + κ) → Root (G * half) H → Root (g * half) h → nat_abs (pos h -ℤ pos H) ≤ Λ
scale_close G g H h G-least near root root' =
    let H-least : H0 ≤ H = scale_least G H root G-least in
    let h_least : H0 - Λ < h + 1 = square_lt (H0 - Λ) (h + 1) (omega arith) in
    within h H (scale_rise g G h H near.0 root'.0 root.1 (omega arith)) (scale_rise G g H h near.1 root.0 root'.1 (omega arith))
