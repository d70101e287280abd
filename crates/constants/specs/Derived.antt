-- Document 01, "Parameter set and its constants": the constants of an accepted set, in the paper's order and names.
-- Under a root and below a fraction's line stands a number that is positive for every accepted set: `nat_abs` reads it as a natural number.
use Rattle.std.specs.Prelude.{cond, ℤ, pos, nat_abs, ◌+ℤ◌, ◌-ℤ◌, ◌*ℤ◌}
use Rattle.integers.specs.Near.{near}
use Rattle.integers.specs.Root.{root}
use Rattle.units.specs.Units.{unit, U}
use Rattle.trig.specs.Sine.{sine, cosine}
use Rattle.parameters.specs.declared.Parameters.{Parameters}
use Rattle.latitudes.specs.declared.Geodetic.{Geodetic}
use Rattle.latitudes.specs.declared.Authalic.{Authalic}
use Rattle.latitudes.specs.declared.AuthalicSeries.{AuthalicSeries}
use Rattle.constants.specs.declared.Constants.{Constants}
use Rattle.parameters.specs.ParameterSet.{polar}
use Rattle.latitudes.specs.Latitude.{coefficients, beta}

-- "Each becomes mas by near(k·206,264,806/U)."
unfoldable pub to_mas : ℤ → ℤ
to_mas k = near (k *ℤ pos 206_264_806) unit

-- of e2 alone
module _ (e2 : ℤ) where
  -- "e4 = near(e2·e2/U), e6 = near(e4·e2/U)"
  unfoldable pub e4 : ℤ
  e4 = near (e2 *ℤ e2) unit

  unfoldable pub e6 : ℤ
  e6 = near (e4 *ℤ e2) unit

  -- "W = U − near(e2/3) − near(e4/15) − near(e6/35); J = root(W·U)"
  unfoldable pub W : ℤ
  W = U -ℤ near e2 3 -ℤ near e4 15 -ℤ near e6 35

  unfoldable pub J : ℤ
  J = pos (root (nat_abs (W *ℤ U)))

  -- "k2 = near(e2/3) + near(31·e4/180) + near(59·e6/560); k4 = near(17·e4/360) + near(61·e6/1260); k6 = near(383·e6/45360)"
  unfoldable pub k2 : ℤ
  k2 = near e2 3 +ℤ near (pos 31 *ℤ e4) 180 +ℤ near (pos 59 *ℤ e6) 560

  unfoldable pub k4 : ℤ
  k4 = near (pos 17 *ℤ e4) 360 +ℤ near (pos 61 *ℤ e6) 1260

  unfoldable pub k6 : ℤ
  k6 = near (pos 383 *ℤ e6) 45360

  unfoldable pub series_of : AuthalicSeries
  series_of = coefficients (to_mas k2) (to_mas k4) (to_mas k6)

-- of e2 and φ0
module _ (e2 : ℤ) (φ0 : Geodetic) where
  -- "S0, C0: sine and cosine of β0."
  unfoldable pub β0 : Authalic
  β0 = beta (series_of e2) φ0

  unfoldable pub S0 : ℤ
  S0 = sine β0.0

  unfoldable pub C0 : ℤ
  C0 = cosine β0.0

  -- "V = U − near(e2·near(s·s/U)/U), s = sine(φ0); m = near(cosine(φ0)·U/root(V·U))"
  unfoldable pub «V» : ℤ
  «V» = U -ℤ near (e2 *ℤ near (sine φ0.0 *ℤ sine φ0.0) unit) unit

  unfoldable pub m : ℤ
  m = near (cosine φ0.0 *ℤ U) (root (nat_abs («V» *ℤ U)))

  -- "D: at ±90° it is U (the polar formulas of 001 are this case). Else .. D = near(m·U/near(J·C0/U))."
  unfoldable pub D : ℤ
  D = cond (polar φ0) U (near (m *ℤ U) (nat_abs (near (J e2 *ℤ C0) unit)))

-- of the set
module _ (p : Parameters) where
  -- "Rq = near(a·J/U)"
  unfoldable pub Rq : ℤ
  Rq = near (p.a *ℤ J p.e2) unit

  -- "RD = near(Rq·D/U); RN = near(Rq·U/D)"
  unfoldable pub RD : ℤ
  RD = near (Rq *ℤ D p.e2 p.lat0) unit

  unfoldable pub RN : ℤ
  RN = near (Rq *ℤ U) (nat_abs (D p.e2 p.lat0))

  -- what the steps take
  unfoldable pub constants_of : Constants
  constants_of =
      record {
        series = series_of p.e2;
        s0 = S0 p.e2 p.lat0;
        c0 = C0 p.e2 p.lat0;
        rd = RD;
        rn = RN;
      }
