-- Back from β to the geodetic latitude: the greatest latitude whose β is not above one that is at most 27 mas from the β of φ is at most 28 mas from φ,
-- because β rises by at least 0.993 for each mas, but for one.
-- Assumes nothing.
use mathlib.Core.Path.{◌≡◌, ap}
use mathlib.Core.Bool.{true, false}
use mathlib.Core.List.{[], ◌∷◌}
use Prim.Native.Nat.{ℕ, ◌+◌, ◌-◌, ◌<◌, ◌≤◌}
use native.Mathlib.Decide.{dec_le}
use native.Mathlib.Omega.{arith}
use lib.IntN.{ℤ, pos, nat_abs, ◌+ℤ◌, ◌-ℤ◌, ◌*ℤ◌}
use lib.Signed.{◌≤ℤ◌, ◌<ℤ◌}
use Rattle.proof_kit.proofs.Laws.{nat_abs_parts, one_part, parts-+, parts--, by_parts}
use Rattle.proof_kit.proofs.Order.{order, le_of, le_le_z, lt_le_z}
use Rattle.proof_kit.proofs.Ring.{ring, quote}
use Rattle.proof_kit.proofs.Size.{within}
use Rattle.integers.specs.Greatest.{greatest}
use Rattle.integers.proofs.Greatest.{greatest_le, greatest_skip, greatest_ge}
use Rattle.units.specs.Units.{right_angle, half_turn}
use Rattle.latitudes.specs.declared.AuthalicSeries.{AuthalicSeries}
use Rattle.latitudes.specs.declared.Authalic.{Authalic}
use Rattle.latitudes.specs.declared.Geodetic.{Geodetic}
use Rattle.latitudes.proofs.AuthalicLaws.{mas, beta_slope}
use Rattle.round_trip.specs.Theorems.{sharp_latitude_bound as bound}
use Rattle.round_trip.proofs.Numerals.{Eβ}
use Rattle.latitudes.specs.Latitude.{beta}
use Rattle.latitudes.specs.InnerSizes.{SmallSeries}
use Rattle.geodetic_search.specs.Reverse.{from_south_pole, not_above, geodetic}

-- ---- two latitudes n mas apart, whose β are x and y

-- a number at most Eβ from the lower β is below the higher one, if n is more than the bound
below_higher : (n : ℕ) (x y z : ℤ) → bound < n → (pos 993 *ℤ pos n -ℤ pos 1000) ≤ℤ (pos 1000 *ℤ (y -ℤ x)) → nat_abs (z -ℤ x) ≤ Eβ → z <ℤ y
below_higher n x y z far slope close =
    omega (order, le_of (pos n ∷ x ∷ y ∷ []) (search quote depth 40 fits 20000) slope, nat_abs_parts (z -ℤ x), parts-- z x)

-- a number at most Eβ from the higher β is not below the lower one, if n is the bound
above_lower : (x y z : ℤ) → (pos 993 *ℤ pos bound -ℤ pos 1000) ≤ℤ (pos 1000 *ℤ (y -ℤ x)) → nat_abs (z -ℤ y) ≤ Eβ → x ≤ℤ z
above_lower x y z slope close =
    omega (order, le_of (x ∷ y ∷ []) (search quote depth 40 fits 20000) slope, nat_abs_parts (z -ℤ y), parts-- z y)

-- ---- latitudes counted from the South Pole

module _ (k : AuthalicSeries) (small : SmallSeries k) (β' : Authalic) where
  -- how much β rises from m to m + n
  slope : (m n : ℕ) → (pos 993 *ℤ pos n -ℤ pos 1000) ≤ℤ (pos 1000 *ℤ ((beta k (from_south_pole (m + n))).0 -ℤ (beta k (from_south_pole m)).0))
  unfolding from_south_pole
  slope m n = rw (moved (pos m) (pos n) (pos right_angle)) (beta_slope k small n (pos m -ℤ pos right_angle))
    where
      moved : (x y r : ℤ) → x +ℤ y -ℤ r ≡ x -ℤ r +ℤ y
      moved x y r = ring (x ∷ y ∷ r ∷ []) (search quote depth 40 fits 20000) tt

  module _ (m : ℕ) (m-most : m ≤ half_turn) (close : nat_abs (β'.0 -ℤ (beta k (from_south_pole m)).0) ≤ Eβ) where
    -- more than the bound north of m, no latitude passes the test
    fails : (j : ℕ) → m + bound < j → not_above k β' j ≡ false
    unfolding not_above
    fails j far =
        let e : m + (j - m) ≡ j = omega arith in
        lt_le_z (below_higher (j - m) (beta k (from_south_pole m)).0 (beta k (from_south_pole j)).0 β'.0 (omega arith) (rw e at (slope m (j - m))) close)

    -- so the greatest is at most the bound north of m
    found_most : greatest (not_above k β') half_turn ≤ m + bound
    found_most = at (dec_le (m + bound) half_turn)
      where
        at : Dec (m + bound ≤ half_turn) → greatest (not_above k β') half_turn ≤ m + bound
        at (yes h) = rw (greatest_skip (not_above k β') half_turn (m + bound) h (λ j far up. fails j far)) (greatest_le (not_above k β') (m + bound))
        at (no h) = omega (arith, greatest_le (not_above k β') half_turn)

    -- by the bound south of m, the latitude passes the test
    passes : (j : ℕ) → j + bound ≡ m → not_above k β' j ≡ true
    unfolding not_above
    passes j e = le_le_z (above_lower (beta k (from_south_pole j)).0 (beta k (from_south_pole m)).0 β'.0 (rw e at (slope j bound)) close)

    -- so the greatest is at most the bound south of m
    found_least : m ≤ greatest (not_above k β') half_turn + bound
    found_least = at (dec_le m bound)
      where
        at : Dec (m ≤ bound) → m ≤ greatest (not_above k β') half_turn + bound
        at (yes h) = omega arith
        at (no h) = omega (arith, greatest_ge (not_above k β') half_turn (m - bound) (omega arith) (passes (m - bound) (omega arith)))

    -- the two as latitudes
    counted_close : nat_abs ((geodetic k β').0 -ℤ (from_south_pole m).0) ≤ bound
    unfolding geodetic from_south_pole
    counted_close =
        rw (apart (pos (greatest (not_above k β') half_turn)) (pos m) (pos right_angle))
        (within (greatest (not_above k β') half_turn) m found_most found_least)
      where
        apart : (x y r : ℤ) → (x -ℤ r) -ℤ (y -ℤ r) ≡ x -ℤ y
        apart x y r = ring (x ∷ y ∷ r ∷ []) (search quote depth 40 fits 20000) tt

-- ---- any latitude

-- a latitude by its count from the South Pole
count_of : (φ : Geodetic) → nat_abs φ.0 ≤ right_angle → from_south_pole (nat_abs (φ.0 +ℤ pos right_angle)) ≡ φ
unfolding from_south_pole
count_of φ h = ap mas (counted φ.0 h)
  where
    counted : (x : ℤ) → nat_abs x ≤ right_angle → pos (nat_abs (x +ℤ pos right_angle)) -ℤ pos right_angle ≡ x
    counted x size =
        let z : ℤ = x +ℤ pos right_angle in
        by_parts (pos (nat_abs z) -ℤ pos right_angle) x
        (omega (arith, nat_abs_parts x, nat_abs_parts z, one_part z, parts-+ x (pos right_angle), parts-- (pos (nat_abs z)) (pos right_angle)))

-- the count ends at the North Pole
count_most : (φ : ℤ) → nat_abs φ ≤ right_angle → nat_abs (φ +ℤ pos right_angle) ≤ half_turn
count_most φ h = omega (arith, nat_abs_parts φ, nat_abs_parts (φ +ℤ pos right_angle), one_part (φ +ℤ pos right_angle), parts-+ φ (pos right_angle))

-- the geodetic latitude of a β near that of φ is near φ
pub geodetic_close : (k : AuthalicSeries) → SmallSeries k → (φ : Geodetic) (β' : Authalic) → nat_abs φ.0 ≤ right_angle →
    nat_abs (β'.0 -ℤ (beta k φ).0) ≤ Eβ → nat_abs ((geodetic k β').0 -ℤ φ.0) ≤ bound
geodetic_close k small φ β' h close =
    let is : from_south_pole (nat_abs (φ.0 +ℤ pos right_angle)) ≡ φ = count_of φ h in
    rw is at (counted_close k small β' (nat_abs (φ.0 +ℤ pos right_angle)) (count_most φ.0 h) (rw is close))
