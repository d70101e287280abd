-- Document 01, "Forward steps", in centimetres and milliarcseconds.
use Rattle.std.specs.Prelude.{ℕ, Bool, ℤ, pos, nat_abs, ◌+ℤ◌, ◌-ℤ◌, ◌*ℤ◌}
use Rattle.std.specs.Int.Signed.{le_z}
use Rattle.integers.specs.Near.{near}
use Rattle.integers.specs.Root.{root}
use Rattle.units.specs.Units.{unit, U}
use Rattle.trig.specs.Sine.{sine, cosine}
use Rattle.latitudes.specs.declared.Geodetic.{Geodetic}
use Rattle.latitudes.specs.Latitude.{beta}
use Rattle.constants.specs.declared.Constants.{Constants}
use Rattle.azimuthal_forward.specs.declared.Direction.{Direction}

-- Nearness (a term of document 01): 2U at the centre, 0 at the point opposite to it. "G below 20,000,000: refused 4."
unfoldable pub near_enough : ℤ → Bool
near_enough G = le_z (pos 20_000_000) G

-- "H = root(G·500,000,000)"
unfoldable pub H : ℤ → ℕ
H G = root (nat_abs (G *ℤ pos 500_000_000))

-- The steps for the constants k, the latitude φ and Δ = lon − lon0.
module _ (k : Constants) (φ : Geodetic) (Δ : ℤ) where
  -- "b, c: sine and cosine of β"
  unfoldable pub b : ℤ
  b = sine (beta k.series φ).0

  unfoldable pub c : ℤ
  c = cosine (beta k.series φ).0

  -- "u = near(c·sine(Δ)/U); v = near(c·cosine(Δ)/U)"
  unfoldable pub u : ℤ
  u = near (c *ℤ sine Δ) unit

  unfoldable pub v : ℤ
  v = near (c *ℤ cosine Δ) unit

  -- "w = near((C0·b − S0·v)/U). Nearness G = U + near((S0·b + C0·v)/U)"
  unfoldable pub w : ℤ
  w = near (k.c0 *ℤ b -ℤ k.s0 *ℤ v) unit

  unfoldable pub G : ℤ
  G = U +ℤ near (k.s0 *ℤ b +ℤ k.c0 *ℤ v) unit

  -- "E = FE + near(RD·u/H); N = FN + near(RN·w/H)", less the false origin
  unfoldable pub dE : ℤ
  dE = near (k.rd *ℤ u) (H G)

  unfoldable pub dN : ℤ
  dN = near (k.rn *ℤ w) (H G)

-- u, w and G together
unfoldable pub direction_of : Constants → Geodetic → ℤ → Direction
direction_of k φ Δ = record { u = u k φ Δ; w = w k φ Δ; g = G k φ Δ }
