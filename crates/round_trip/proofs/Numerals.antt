-- The numbers of the round trip. All error bounds follow from one of them, A: how far sine² + cosine² may be from 1, in units of 1 / U.
-- The rest of the proof asks of A only closed inequalities, which the checker computes: a better sine changes the one numeral of A. Assumes nothing.
use Prim.Native.Nat.{ℕ, ◌+◌, ◌*◌, ◌/◌}
-- U: what stands for 1, of which sines and lengths are whole multiples
pub use Rattle.units.specs.Units.{unit}
-- | sine² + cosine² − U² | ≤ A · U
pub use Rattle.trig.proofs.Interface.{A}

abbrev pub half : ℕ
half = 500_000_000

-- κ: the error of the height above the map's plane
abbrev pub κ : ℕ
κ = 3 * A + 20

-- λ (in antt a reserved word): the error of the scale H
abbrev pub Λ : ℕ
Λ = A + 9

-- the error of a coordinate in the map's plane
abbrev pub E1 : ℕ
E1 = 2 * A + 18

-- the error of a coordinate once it is turned back
abbrev pub Ez : ℕ
Ez = 6 * A + 30

-- the error of the distance from the axis
abbrev pub ER : ℕ
ER = 9 * A + 50

-- the least scale: U / √2, rounded down
abbrev pub H0 : ℕ
H0 = 707_106_781

-- at most 89° from the Equator the cosine of β is not less: 0.017
abbrev pub least_cosine : ℕ
least_cosine = 17_000_000

-- the error of β, in mas, rounded down
abbrev pub Eβ : ℕ
Eβ = (5 * (ER + Ez) + 34) / 24
