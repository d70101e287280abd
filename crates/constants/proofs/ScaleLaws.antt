-- The constants that scale the map, for every accepted set: D is near 1, and RD and RN are near the semi-major axis.
-- D stays near 1 because β0 is near φ0, so their cosines are near each other where φ0 is at most 85° from the Equator.
-- Assumes nothing.
use mathlib.Core.Path.{◌≡◌, refl, sym, ap₂, ◌∙◌}
use mathlib.Core.Bool.{Bool, true, false, cond}
use mathlib.Core.List.{[], ◌∷◌}
use mathlib.Core.Logic.{◌⊎◌, inl, inr}
use Prim.Native.Nat.{ℕ, suc, ◌+◌, ◌*◌, ◌<◌, ◌≤◌}
use native.Mathlib.Decide.{dec_le}
use native.Mathlib.Nat.{mul-le-mul, mul-le-mul_left, mul-le-mul_right}
use native.Mathlib.Omega.{arith}
use lib.Dec.{lit<, lit≤}
use lib.IntN.{ℤ, pos, negsuc, neg_ℤ, nat_abs, ◌-ℤ◌, ◌*ℤ◌}
use Rattle.proof_kit.proofs.Ring.{ring, quote}
use Rattle.proof_kit.proofs.Size.{abs_neg, abs_mul, abs_mul_le}
use Rattle.proof_kit.proofs.Order.{pos_abs, pos-≤, ≤ℤ-trans}
use Rattle.integers.specs.Near.{near, nearest}
use Rattle.integers.specs.Root.{root}
use Rattle.integers.proofs.Rounding.{near_pos, near_at_most, nearest_low, nearest_high}
use Rattle.integers.proofs.Squares.{root_least, root_most}
use Rattle.units.specs.Units.{unit, right_angle, U}
use Rattle.trig.specs.Sine.{sine, cosine}
use Rattle.trig.proofs.Interface.{sine_size, cosine_size, cosine_even, cosine_nonneg, cosine_anti, cosine_apart, sine_5_degrees}
use Rattle.parameters.specs.declared.Parameters.{Parameters}
use Rattle.parameters.specs.ParameterSet.{polar, accepted_lat0}
use Rattle.latitudes.proofs.AuthalicLaws.{rounded_size, beta_size}
use Rattle.latitudes.specs.declared.Geodetic.{Geodetic}
use Rattle.latitudes.specs.Latitude.{beta, rounded}
use Rattle.constants.specs.Derived.{J, series_of, β0, C0, «V», m, D, Rq, RD, RN}
use Rattle.constants.proofs.SeriesLaws.{About, about, J-low, J-high, series_small}
use Rattle.units.proofs.Spans.{Between}
use Rattle.parameters.proofs.AcceptedSet.{Accepted, oblique_or_polar}

some : 0 < unit
some = lit< tt

-- ---- cosine(φ0), at most 85° from the Equator

cosine_abs : (φ : ℤ) → cosine φ ≡ cosine (pos (nat_abs φ))
cosine_abs (pos n) = refl
cosine_abs (negsuc n) = cosine_even (pos (suc n))

module _ (φ0 : ℤ) (oblique : nat_abs φ0 ≤ 306_000_000) where
  g_natural : pos (nat_abs (cosine φ0)) ≡ cosine φ0
  g_natural = pos_abs (cosine_nonneg φ0 (omega arith))

  g_least : 87_000_000 ≤ nat_abs (cosine φ0)
  unfolding cosine
  g_least =
      pos-≤ (rw g_natural (rw (cosine_abs φ0) (≤ℤ-trans sine_5_degrees (cosine_anti (nat_abs φ0) 306_000_000 oblique (lit≤ tt)))))

-- ---- C0 is near cosine(φ0)

beta_apart : (e2 : ℤ) (φ0 : Geodetic) → nat_abs e2 ≤ 10_000_000 → nat_abs ((β0 e2 φ0).0 -ℤ φ0.0) ≤ 692_510
unfolding β0 beta
beta_apart e2 φ0 small =
    rw (back φ0.0 (rounded (series_of e2) φ0), abs_neg (rounded (series_of e2) φ0)) (rounded_size (series_of e2) (series_small e2 small) φ0.0)
  where
    back : (x y : ℤ) → x -ℤ y -ℤ x ≡ neg_ℤ y
    back x y = ring (x ∷ y ∷ []) (search quote depth 40 fits 20000) tt

C0-about : (e2 : ℤ) (φ0 : Geodetic) → nat_abs e2 ≤ 10_000_000 → nat_abs φ0.0 ≤ 306_000_000 → About (C0 e2 φ0) (nat_abs (cosine φ0.0)) 3_462_550
unfolding C0
C0-about e2 φ0 small oblique =
    about (cosine (β0 e2 φ0).0) (nat_abs (cosine φ0.0)) 3_462_550
    (rw (g_natural φ0.0 oblique) (omega (arith, cosine_apart (β0 e2 φ0).0 φ0.0, beta_apart e2 φ0 small)))
    (omega (arith, g_least φ0.0 oblique))

pub β0_size : (e2 : ℤ) (φ0 : Geodetic) → nat_abs e2 ≤ 10_000_000 → nat_abs φ0.0 ≤ right_angle → nat_abs (β0 e2 φ0).0 ≤ right_angle
unfolding β0
β0_size e2 φ0 small h = beta_size (series_of e2) (series_small e2 small) φ0.0 h

pub C0-size : (e2 : ℤ) (φ0 : Geodetic) → nat_abs (C0 e2 φ0) ≤ unit
unfolding C0
C0-size e2 φ0 = cosine_size (β0 e2 φ0).0

-- ---- V and its root

pub square_size : (φ0 : ℤ) → nat_abs (near (sine φ0 *ℤ sine φ0) unit) ≤ unit
square_size φ0 =
    near_at_most (sine φ0 *ℤ sine φ0) unit unit some (abs_mul_le (sine φ0) (sine φ0) (sine_size φ0) (sine_size φ0))

pub V-about : (e2 : ℤ) (φ0 : Geodetic) → nat_abs e2 ≤ 10_000_000 → About («V» e2 φ0) unit 10_000_000
unfolding «V»
V-about e2 φ0 small =
    about (U -ℤ near (e2 *ℤ near (sine φ0.0 *ℤ sine φ0.0) unit) unit) unit 10_000_000
    (rw (back U (near (e2 *ℤ near (sine φ0.0 *ℤ sine φ0.0) unit) unit), abs_neg (near (e2 *ℤ near (sine φ0.0 *ℤ sine φ0.0) unit) unit))
    (near_at_most (e2 *ℤ near (sine φ0.0 *ℤ sine φ0.0) unit) unit 10_000_000 some
    (abs_mul_le e2 (near (sine φ0.0 *ℤ sine φ0.0) unit) small (square_size φ0.0))))
    (lit≤ tt)
  where
    back : (x y : ℤ) → x -ℤ y -ℤ x ≡ neg_ℤ y
    back x y = ring (x ∷ y ∷ []) (search quote depth 40 fits 20000) tt

module _ (e2 : ℤ) (φ0 : Geodetic) (small : nat_abs e2 ≤ 10_000_000) where
  pub V-root-least : 994_000_000 ≤ root (nat_abs («V» e2 φ0 *ℤ U))
  V-root-least =
      root_least (nat_abs («V» e2 φ0 *ℤ U)) 994_000_000 (rw (abs_mul («V» e2 φ0) U) (omega (arith, (V-about e2 φ0 small).low)))

  pub V-root-most : root (nat_abs («V» e2 φ0 *ℤ U)) ≤ 1_005_000_000
  V-root-most =
      root_most (nat_abs («V» e2 φ0 *ℤ U)) 1_005_000_000 (rw (abs_mul («V» e2 φ0) U) (omega (arith, (V-about e2 φ0 small).high)))

-- ---- D

-- m = near(g·U/r), with a root r near U: within 0.7 % of g
module _ (g r m : ℕ) (g-large : 87_000_000 ≤ g) (r-least : 994_000_000 ≤ r) (r-most : r ≤ 1_005_000_000) (is : m ≡ nearest (g * unit) r) where
  r_some : 0 < r
  r_some = omega arith

  m_high : 1000 * m ≤ 1007 * g
  m_high = omega (arith, rw (← is) at (nearest_low (g * unit) r_some), mul-le-mul_left m r-least)

  m_low : 994 * g ≤ 1000 * m
  m_low = omega (arith, rw (← is) at (nearest_high (g * unit) r_some), mul-le-mul_left m r-most)

-- j = near(J·c/U), with J near U and a cosine c near g: within 4.4 % of g
module _ (g J c j : ℕ) (g-large : 87_000_000 ≤ g) (c-low : g ≤ c + 3_462_550) (c-high : c ≤ g + 3_462_550) (J-least : 996_000_000 ≤ J)
    (J-most : J ≤ 1_002_000_000) (is : j ≡ nearest (J * c) unit) where
  j_high : 1000 * j ≤ 1043 * g
  j_high = omega (arith, rw (← is) at (nearest_low (J * c) some), mul-le-mul_right c J-most)

  j_low : 956 * g ≤ 1000 * j
  j_low = omega (arith, rw (← is) at (nearest_high (J * c) some), mul-le-mul_right c J-least)

-- D = near(m·U/j)
module _ (g m j : ℕ) (g-large : 87_000_000 ≤ g) (j_low : 956 * g ≤ 1000 * j) where
  j_large : 80_000_000 ≤ j
  j_large = omega arith

  j_some : 0 < j
  j_some = omega (arith, j_large)

  D-most : 1000 * m ≤ 1007 * g → nearest (m * unit) j ≤ 1_070_000_000
  D-most m_high = at (dec_le (nearest (m * unit) j) 1_070_000_000)
    where
      at : Dec (nearest (m * unit) j ≤ 1_070_000_000) → nearest (m * unit) j ≤ 1_070_000_000
      at (yes h) = h
      at (no h) =
          let more : 1_070_000_001 ≤ nearest (m * unit) j = omega arith in
          let e : ⊥ = omega (arith, mul-le-mul_right j more, nearest_low (m * unit) j_some) in
          absurd e

  D-least : 994 * g ≤ 1000 * m → 1000 * j ≤ 1043 * g → 930_000_000 ≤ nearest (m * unit) j
  D-least m_low j_high = at (dec_le 930_000_000 (nearest (m * unit) j))
    where
      at : Dec (930_000_000 ≤ nearest (m * unit) j) → 930_000_000 ≤ nearest (m * unit) j
      at (yes h) = h
      at (no h) =
          let less : nearest (m * unit) j ≤ 929_999_999 = omega arith in
          let e : ⊥ = omega (arith, mul-le-mul_right j less, nearest_high (m * unit) j_some) in
          absurd e

-- ---- the same of the paper's D

J-natural : (e2 : ℤ) → pos (nat_abs (J e2)) ≡ J e2
unfolding J
J-natural e2 = refl

-- the quotient of two numbers that are not negative
near_natural : (x y : ℤ) (d : ℕ) → pos (nat_abs x) ≡ x → pos (nat_abs y) ≡ y → near (x *ℤ y) d ≡ pos (nearest (nat_abs x * nat_abs y) d)
near_natural x y d e f = ap₂ (λ (a b : ℤ). near (a *ℤ b) d) (sym e) (sym f) ∙ near_pos (nat_abs x * nat_abs y) d

module _ (e2 : ℤ) (φ0 : Geodetic) (small : nat_abs e2 ≤ 10_000_000) (oblique : nat_abs φ0.0 ≤ 306_000_000) where
  g : ℕ
  g = nat_abs (cosine φ0.0)

  r : ℕ
  r = root (nat_abs («V» e2 φ0 *ℤ U))

  mn : ℕ
  mn = nearest (g * unit) r

  jn : ℕ
  jn = nearest (nat_abs (J e2) * nat_abs (C0 e2 φ0)) unit

  m_is : m e2 φ0 ≡ pos mn
  unfolding m mn g r
  m_is = near_natural (cosine φ0.0) U r (g_natural φ0.0 oblique) refl

  j_is : near (J e2 *ℤ C0 e2 φ0) unit ≡ pos jn
  unfolding jn
  j_is = near_natural (J e2) (C0 e2 φ0) unit (J-natural e2) (C0-about e2 φ0 small oblique).same

  quotient_is : near (m e2 φ0 *ℤ U) (nat_abs (near (J e2 *ℤ C0 e2 φ0) unit)) ≡ pos (nearest (mn * unit) jn)
  quotient_is = ap₂ (λ (x y : ℤ). near (x *ℤ U) (nat_abs y)) m_is j_is ∙ near_pos (mn * unit) jn

  mn_high : 1000 * mn ≤ 1007 * g
  unfolding mn g r
  mn_high = m_high g r mn (g_least φ0.0 oblique) (V-root-least e2 φ0 small) (V-root-most e2 φ0 small) refl

  mn_low : 994 * g ≤ 1000 * mn
  unfolding mn g r
  mn_low = m_low g r mn (g_least φ0.0 oblique) (V-root-least e2 φ0 small) (V-root-most e2 φ0 small) refl

  jn_high : 1000 * jn ≤ 1043 * g
  unfolding jn g
  jn_high =
      let c = C0-about e2 φ0 small oblique in
      j_high g (nat_abs (J e2)) (nat_abs (C0 e2 φ0)) jn (g_least φ0.0 oblique) c.low c.high (J-low e2 small) (J-high e2 small) refl

  jn_low : 956 * g ≤ 1000 * jn
  unfolding jn g
  jn_low =
      let c = C0-about e2 φ0 small oblique in
      j_low g (nat_abs (J e2)) (nat_abs (C0 e2 φ0)) jn (g_least φ0.0 oblique) c.low c.high (J-low e2 small) (J-high e2 small) refl

  quotient_between : Between (near (m e2 φ0 *ℤ U) (nat_abs (near (J e2 *ℤ C0 e2 φ0) unit))) 930_000_000 1_070_000_000
  unfolding g
  quotient_between =
      rw quotient_is
      (record {
        natural = refl;
        least = D-least g mn jn (g_least φ0.0 oblique) jn_low mn_low jn_high;
        most = D-most g mn jn (g_least φ0.0 oblique) jn_low mn_high;
      })

  -- what the code asks of m and of the divisor j
  pub m_size : nat_abs (m e2 φ0) ≤ 1_007_000_000
  unfolding g
  m_size = rw m_is (omega (arith, mn_high, cosine_size φ0.0))

  pub j_between : Between (near (J e2 *ℤ C0 e2 φ0) unit) 80_000_000 1_043_000_000
  unfolding g
  j_between =
      rw j_is
      (record {
        natural = refl;
        least = j_large g mn jn (g_least φ0.0 oblique) jn_low;
        most = omega (arith, jn_high, cosine_size φ0.0);
      })

-- φ0 where D is the quotient
pub oblique : (φ0 : Geodetic) → accepted_lat0 φ0 ≡ true → polar φ0 ≡ false → nat_abs φ0.0 ≤ 306_000_000
oblique φ0 ok e = at (oblique_or_polar φ0 ok)
  where
    at : (nat_abs φ0.0 ≤ 306_000_000) ⊎ (polar φ0 ≡ true) → nat_abs φ0.0 ≤ 306_000_000
    at (inl h) = h
    at (inr t) = let z : ◌≡◌ {A = ℕ} 0 1 = cc in omega arith

pub D-between : (e2 : ℤ) (φ0 : Geodetic) → nat_abs e2 ≤ 10_000_000 → accepted_lat0 φ0 ≡ true → Between (D e2 φ0) 930_000_000 1_070_000_000
unfolding D
D-between e2 φ0 small ok = at (polar φ0) refl
  where
    at :
        (b : Bool) →
        polar φ0 ≡ b →
        Between (cond b U (near (m e2 φ0 *ℤ U) (nat_abs (near (J e2 *ℤ C0 e2 φ0) unit)))) 930_000_000 1_070_000_000
    at true e = record { natural = refl; least = lit≤ tt; most = lit≤ tt }
    at false e = quotient_between e2 φ0 small (oblique φ0 ok e)

-- ---- the radii

module _ (p : Parameters) (ok : Accepted p) where
  pub e2_small : nat_abs p.e2 ≤ 10_000_000
  e2_small = ok.e2_between.most

  D-ok : Between (D p.e2 p.lat0) 930_000_000 1_070_000_000
  D-ok = D-between p.e2 p.lat0 e2_small ok.lat0_accepted

  Rq-is : Rq p ≡ pos (nearest (nat_abs p.a * nat_abs (J p.e2)) unit)
  unfolding Rq
  Rq-is = near_natural p.a (J p.e2) unit ok.a_between.natural (J-natural p.e2)

  pub Rq-between : Between (Rq p) 99_599_999 1_002_000_000
  Rq-between =
      let a : ℕ = nat_abs p.a in
      let j : ℕ = nat_abs (J p.e2) in
      let least : 100_000_000 * 996_000_000 ≤ a * j = mul-le-mul ok.a_between.least (J-low p.e2 e2_small) in
      let most : a * j ≤ 1_000_000_000 * 1_002_000_000 = mul-le-mul ok.a_between.most (J-high p.e2 e2_small) in
      rw Rq-is (record { natural = refl; least = omega (arith, nearest_high (a * j) some); most = omega (arith, nearest_low (a * j) some) })

  RD-is : RD p ≡ pos (nearest (nat_abs (Rq p) * nat_abs (D p.e2 p.lat0)) unit)
  unfolding RD
  RD-is = near_natural (Rq p) (D p.e2 p.lat0) unit Rq-between.natural D-ok.natural

  pub RD-between : Between (RD p) 90_909_091 1_080_000_000
  RD-between =
      let q : ℕ = nat_abs (Rq p) in
      let d : ℕ = nat_abs (D p.e2 p.lat0) in
      let least : 99_599_999 * 930_000_000 ≤ q * d = mul-le-mul Rq-between.least D-ok.least in
      let most : q * d ≤ 1_002_000_000 * 1_070_000_000 = mul-le-mul Rq-between.most D-ok.most in
      rw RD-is (record { natural = refl; least = omega (arith, nearest_high (q * d) some); most = omega (arith, nearest_low (q * d) some) })

  RN-is : RN p ≡ pos (nearest (nat_abs (Rq p) * unit) (nat_abs (D p.e2 p.lat0)))
  unfolding RN
  RN-is = near_natural (Rq p) U (nat_abs (D p.e2 p.lat0)) Rq-between.natural refl

  -- a quotient by a divisor from 0.93 U to 1.07 U
  quotient : (q d : ℕ) → 99_599_999 ≤ q → q ≤ 1_002_000_000 → 930_000_000 ≤ d → d ≤ 1_070_000_000 →
      Between (pos (nearest (q * unit) d)) 90_909_091 1_080_000_000
  quotient q d ql qm dl dm =
      let n : ℕ = nearest (q * unit) d in
      let d-some : 0 < d = omega arith in
      record {
        natural = refl;
        least = omega (arith, nearest_high (q * unit) d-some, mul-le-mul_left n dm);
        most = omega (arith, nearest_low (q * unit) d-some, mul-le-mul_left n dl);
      }

  pub RN-between : Between (RN p) 90_909_091 1_080_000_000
  RN-between =
      rw RN-is (quotient (nat_abs (Rq p)) (nat_abs (D p.e2 p.lat0)) Rq-between.least Rq-between.most D-ok.least D-ok.most)
