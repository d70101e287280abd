-- Laws of the authalic latitude β, for coefficients as small as those of every accepted set: odd, as each sine is; ±90° at ±90°, where each
-- sine is 0; near φ, as the terms are small; and never falling, as the terms change by less than 0.7 % of what φ does. Assumes nothing.
use mathlib.Core.Path.{◌≡◌, refl, ap, ◌∙◌}
use mathlib.Core.List.{[], ◌∷◌}
use Prim.Native.Nat.{ℕ, zero, suc, ◌+◌, ◌*◌, ◌<◌, ◌≤◌}
use native.Mathlib.Nat.{le_trans, mul-le-mul_left}
use native.Mathlib.Omega.{arith}
use lib.Dec.{lit<, lit≤}
use lib.IntN.{ℤ, pos, neg_ℤ, nat_abs, ◌+ℤ◌, ◌-ℤ◌, ◌*ℤ◌, +ℤ_idr}
use lib.Signed.{◌≤ℤ◌, ≤ℤ_refl}
use Rattle.proof_kit.proofs.Laws.{*ℤ-distribˡ, nat_abs_parts, parts--}
use Rattle.proof_kit.proofs.Ring.{ring, quote}
use Rattle.proof_kit.proofs.Size.{as_size, abs_le, abs_from, abs_mul, sizes}
use Rattle.proof_kit.proofs.Order.{order, le_by, le_of, pos_abs, abs_lower, abs_upper, abs_between}
use Rattle.proof_kit.proofs.Certificate.{nonneg_gap}
use Rattle.integers.specs.Near.{near}
use Rattle.integers.proofs.Rounding.{near_odd, near_zero, near_at_most, near_apart}
use Rattle.units.specs.Units.{unit, right_angle, half_turn}
use Rattle.trig.specs.Sine.{sine}
use Rattle.trig.proofs.Interface.{sine_odd, sine_size, sine_change, sine_zero, sine_half_turn}
use Rattle.latitudes.specs.declared.Geodetic.{Geodetic}
use Rattle.latitudes.specs.declared.AuthalicSeries.{AuthalicSeries}
use Rattle.latitudes.specs.Latitude.{three_terms, terms, rounded, beta}
use Rattle.latitudes.specs.InnerSizes.{SmallSeries, SmallTerms}
use Rattle.latitudes.specs.InnerRounding.{weighted, terms_error}
use Rattle.latitudes.proofs.RoundingLaws.{terms_apart, terms_error_size}

some : 0 < unit
some = lit< tt

-- a number of mas as a geodetic latitude, and β of it as a number of mas
abbrev pub mas : ℤ → Geodetic
mas φ = record { 0 = φ }

abbrev pub beta_mas : AuthalicSeries → ℤ → ℤ
beta_mas k φ = (beta k (mas φ)).0

-- φ less the three terms, rounded once
beta_is : (k : AuthalicSeries) (φ : ℤ) → beta_mas k φ ≡ φ -ℤ near (terms k (mas φ)) unit
unfolding beta rounded
beta_is k φ = refl

-- ---- odd

double_neg : (m φ : ℤ) → m *ℤ neg_ℤ φ ≡ neg_ℤ (m *ℤ φ)
double_neg m φ = ring (m ∷ φ ∷ []) (search quote depth 40 fits 20000) tt

sine_multiple : (m φ : ℤ) → sine (m *ℤ neg_ℤ φ) ≡ neg_ℤ (sine (m *ℤ φ))
sine_multiple m φ = ap sine (double_neg m φ) ∙ sine_odd (m *ℤ φ)

terms_odd : (k : AuthalicSeries) (φ : ℤ) → terms k (mas (neg_ℤ φ)) ≡ neg_ℤ (terms k (mas φ))
unfolding terms
terms_odd k φ =
    rw (sine_multiple (pos 2) φ, sine_multiple (pos 4) φ, sine_multiple (pos 6) φ)
    (turned k.k2 (sine (pos 2 *ℤ φ)) k.k4 (sine (pos 4 *ℤ φ)) k.k6 (sine (pos 6 *ℤ φ)))
  where
    turned : (a x b y c z : ℤ) → a *ℤ neg_ℤ x -ℤ b *ℤ neg_ℤ y +ℤ c *ℤ neg_ℤ z ≡ neg_ℤ (a *ℤ x -ℤ b *ℤ y +ℤ c *ℤ z)
    turned a x b y c z = ring (a ∷ x ∷ b ∷ y ∷ c ∷ z ∷ []) (search quote depth 40 fits 20000) tt

pub beta_odd : (k : AuthalicSeries) (φ : ℤ) → beta_mas k (neg_ℤ φ) ≡ neg_ℤ (beta_mas k φ)
beta_odd k φ =
    rw (beta_is k φ, beta_is k (neg_ℤ φ), terms_odd k φ, near_odd (terms k (mas φ)) unit some) (turned φ (near (terms k (mas φ)) unit))
  where
    turned : (x y : ℤ) → neg_ℤ x -ℤ neg_ℤ y ≡ neg_ℤ (x -ℤ y)
    turned x y = ring (x ∷ y ∷ []) (search quote depth 40 fits 20000) tt

-- ---- at the poles

-- 2, 4 and 6 times 90° are whole half turns
half_turns : (sine (pos half_turn) ≡ pos 0) × (sine (pos (half_turn + half_turn)) ≡ pos 0) × (sine (pos (half_turn + half_turn + half_turn)) ≡ pos 0)
half_turns =
    let one = sine_half_turn (pos 0) ∙ ap neg_ℤ sine_zero in
    let two = sine_half_turn (pos half_turn) ∙ ap neg_ℤ one in
    (one, two, sine_half_turn (pos (half_turn + half_turn)) ∙ ap neg_ℤ two)

terms_pole : (k : AuthalicSeries) → terms k (mas (pos right_angle)) ≡ pos 0
unfolding terms
terms_pole k =
    rw (half_turns.0, half_turns.1, half_turns.2) (none k.k2 k.k4 k.k6)
  where
    none : (a b c : ℤ) → a *ℤ pos 0 -ℤ b *ℤ pos 0 +ℤ c *ℤ pos 0 ≡ pos 0
    none a b c = ring (a ∷ b ∷ c ∷ []) (search quote depth 40 fits 20000) tt

pub beta_north_pole : (k : AuthalicSeries) → beta_mas k (pos right_angle) ≡ pos right_angle
beta_north_pole k = rw (beta_is k (pos right_angle), terms_pole k, near_zero unit some)

pub beta_south_pole : (k : AuthalicSeries) → beta_mas k (neg_ℤ (pos right_angle)) ≡ neg_ℤ (pos right_angle)
beta_south_pole k = beta_odd k (pos right_angle) ∙ ap neg_ℤ (beta_north_pole k)

-- ---- β is near φ

three_terms_at_most :
    (k2 k4 k6 x : ℤ) {A B C : ℕ} →
    nat_abs k2 ≤ A →
    nat_abs k4 ≤ B →
    nat_abs k6 ≤ C →
    nat_abs (three_terms k2 k4 k6 x) ≤ (A + B + C) * unit
three_terms_at_most k2 k4 k6 x {A} {B} {C} a b c =
    sum _ _ _ (sine_size (pos 2 *ℤ x)) (sine_size (pos 4 *ℤ x)) (sine_size (pos 6 *ℤ x))
  where
    sum : (x y z : ℤ) → nat_abs x ≤ unit → nat_abs y ≤ unit → nat_abs z ≤ unit → nat_abs (k2 *ℤ x -ℤ k4 *ℤ y +ℤ k6 *ℤ z) ≤ (A + B + C) * unit
    sum x y z hx hy hz = rw as_size (abs_le (search sizes depth 40 fits 20000) (omega arith))

pub three_terms_size : {k2 k4 k6 : ℤ} → SmallTerms k2 k4 k6 → (x : ℤ) → nat_abs (three_terms k2 k4 k6 x) ≤ 46_000_000 * unit
three_terms_size {k2} {k4} {k6} small x =
    le_trans (three_terms_at_most k2 k4 k6 x small.k2_size small.k4_size small.k6_size) (lit≤ tt)

-- a sum that is that near the definition's
pub three_lines_size :
    {k2 k4 k6 : ℤ} →
    SmallTerms k2 k4 k6 →
    (r x : ℤ) →
    nat_abs (r -ℤ three_terms k2 k4 k6 x) ≤ terms_error k2 k4 k6 →
    nat_abs r ≤ 47_000_000 * unit
three_lines_size {k2} {k4} {k6} small r x h =
    omega (arith, abs_from r (three_terms k2 k4 k6 x), three_terms_size small x, terms_error_size small)

terms_size : (k : AuthalicSeries) → SmallSeries k → (φ : ℤ) → nat_abs (terms k (mas φ)) ≤ 692_510 * unit
unfolding terms
terms_size k small φ = three_terms_at_most k.k2 k.k4 k.k6 φ small.k2_size small.k4_size small.k6_size

pub rounded_size : (k : AuthalicSeries) → SmallSeries k → (φ : ℤ) → nat_abs (rounded k (mas φ)) ≤ 692_510
unfolding rounded
rounded_size k small φ = near_at_most (terms k (mas φ)) unit 692_510 some (terms_size k small φ)

-- ---- never falling

-- the sine of a multiple of φ changes by at most 5 for each mas of the multiple
multiple_change : (m n : ℕ) (φ : ℤ) → nat_abs (sine (pos m *ℤ (φ +ℤ pos n)) -ℤ sine (pos m *ℤ φ)) ≤ 5 * (m * n)
multiple_change m n φ = rw (*ℤ-distribˡ (pos m) φ (pos n)) (sine_change (m * n) (pos m *ℤ φ))

-- so the sum of the three terms changes by that, each with its coefficient
three_terms_change :
    (k2 k4 k6 : ℤ) (n : ℕ) (x : ℤ) →
    nat_abs (three_terms k2 k4 k6 (x +ℤ pos n) -ℤ three_terms k2 k4 k6 x) ≤ weighted (5 * (2 * n)) (5 * (4 * n)) (5 * (6 * n)) k2 k4 k6
three_terms_change k2 k4 k6 n x = terms_apart k2 k4 k6 _ _ _ _ _ _ (multiple_change 2 n x) (multiple_change 4 n x) (multiple_change 6 n x)

pub three_terms_step : (k2 k4 k6 x : ℤ) → nat_abs (three_terms k2 k4 k6 (x +ℤ pos 1) -ℤ three_terms k2 k4 k6 x) ≤ weighted 10 20 30 k2 k4 k6
three_terms_step k2 k4 k6 x = three_terms_change k2 k4 k6 1 x

terms_change :
    (k : AuthalicSeries) →
    SmallSeries k →
    (n : ℕ) (φ : ℤ) →
    nat_abs (terms k (mas (φ +ℤ pos n)) -ℤ terms k (mas φ)) ≤ n * 7_000_000
unfolding terms
terms_change k small n φ =
    let two = mul-le-mul_left n small.k2_size in
    let four = mul-le-mul_left n small.k4_size in
    let six = mul-le-mul_left n small.k6_size in
    le_trans (three_terms_change k.k2 k.k4 k.k6 n φ) (omega (arith, two, four, six))

-- n mas of φ are at least 0.993·n − 1 mas of β
pub beta_slope :
    (k : AuthalicSeries) →
    SmallSeries k →
    (n : ℕ) (φ : ℤ) →
    (pos 993 *ℤ pos n -ℤ pos 1000) ≤ℤ (pos 1000 *ℤ (beta_mas k (φ +ℤ pos n) -ℤ beta_mas k φ))
beta_slope k small n φ =
    let here = terms k (mas φ) in
    let there = terms k (mas (φ +ℤ pos n)) in
    let scaled = abs_mul (pos unit) (near there unit -ℤ near here unit) in
    rw (beta_is k φ, beta_is k (φ +ℤ pos n))
    (falls_short (near there unit) (near here unit) (omega (arith, scaled, near_apart there here unit some, terms_change k small n φ)))
  where
    falls_short :
        (x y : ℤ) →
        1000 * nat_abs (x -ℤ y) ≤ 7 * n + 1000 →
        (pos 993 *ℤ pos n -ℤ pos 1000) ≤ℤ (pos 1000 *ℤ ((φ +ℤ pos n -ℤ x) -ℤ (φ -ℤ y)))
    falls_short x y h =
        le_by (pos n ∷ φ ∷ x ∷ y ∷ []) (search quote depth 40 fits 20000) (omega (arith, nat_abs_parts (x -ℤ y), parts-- x y))

pub beta_mono : (k : AuthalicSeries) → SmallSeries k → (n : ℕ) (φ : ℤ) → beta_mas k φ ≤ℤ beta_mas k (φ +ℤ pos n)
beta_mono k small zero φ = rw (+ℤ_idr φ) (≤ℤ_refl (beta_mas k φ))
beta_mono k small (suc n) φ = rises (beta_mas k φ) (beta_mas k (φ +ℤ pos (suc n))) (beta_slope k small (suc n) φ)
  where
    rises : (x y : ℤ) → (pos 993 *ℤ pos (suc n) -ℤ pos 1000) ≤ℤ (pos 1000 *ℤ (y -ℤ x)) → x ≤ℤ y
    rises x y h =
        omega (order, le_of (pos (suc n) ∷ x ∷ y ∷ []) (search quote depth 40 fits 20000) h)

pub beta-≤ : (k : AuthalicSeries) → SmallSeries k → {φ ψ : ℤ} → φ ≤ℤ ψ → beta_mas k φ ≤ℤ beta_mas k ψ
beta-≤ k small {φ} {ψ} h =
    rw apart at (beta_mono k small (nat_abs (ψ -ℤ φ)) φ)
  where
    apart : φ +ℤ pos (nat_abs (ψ -ℤ φ)) ≡ ψ
    apart = ap (λ (x : ℤ). φ +ℤ x) (pos_abs (nonneg_gap h)) ∙ ring (φ ∷ ψ ∷ []) (search quote depth 40 fits 20000) tt

pub beta_size : (k : AuthalicSeries) → SmallSeries k → (φ : ℤ) → nat_abs φ ≤ right_angle → nat_abs (beta_mas k φ) ≤ right_angle
beta_size k small φ h =
    abs_between (beta_mas k φ)
    (rw (beta_south_pole k) at (beta-≤ k small (abs_lower φ h)))
    (rw (beta_north_pole k) at (beta-≤ k small (abs_upper φ h)))
