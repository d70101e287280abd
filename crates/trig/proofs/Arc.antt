-- A sine and its cosine are near the circle: together they are a point of the chord between two points of the table, moved out onto the arc by the
-- correction, and rounded. Assumes nothing.
use mathlib.Core.Path.{◌≡◌, refl, ap, subst₂}
use Prim.Native.Nat.{ℕ, ◌+◌, ◌*◌, ◌<◌, ◌≤◌}
use native.Mathlib.Nat.{mul-le-mul, mul-le-mul_left, le_of_mul-le-mul_left}
use native.Mathlib.Omega.{arith}
use Rattle.integers.proofs.Squares.{mean, sum_by_squares}
use Rattle.units.specs.Units.{unit, minute}
use Rattle.sine_table.proofs.Laws.{curve, half_fine, chord, arc_error, Arc, OnCircle}
use Rattle.trig.proofs.Minute.{per_mas}

-- The numerators of a sine and its cosine are a and b; they count in parts of L · 60,000. L stands for `per_mas`, whose square is too long a
-- number for `omega`. Times a minute, the first of these is U² on the numerators' scale, and the second U.
full : ℕ → ℕ
full L = L * L * (minute * (unit * unit))

thin : ℕ → ℕ
thin L = L * L * (minute * unit)

full_thin : (L : ℕ) → full L ≡ unit * thin L
unfolding full thin
full_thin L = omega arith

full_square : (L : ℕ) → minute * full L ≡ L * (minute * unit) * (L * (minute * unit))
unfolding full
full_square L = omega arith

-- a² + b² is within 1.41 U of U², on that scale
pub record NearRadius (L a b : ℕ) : Type 0 where
  high : 100 * (a * a + b * b) ≤ minute * (100 * full L + 141 * thin L)
  low : minute * (100 * full L) ≤ 100 * (a * a + b * b) + minute * (141 * thin L)

-- ---- from numerators near the circle to sines near it

-- x is a over the scale, rounded
pub record Rounded (L x a : ℕ) : Type 0 where
  pub low : x * (L * minute) ≤ a + L * 30_000
  pub high : a ≤ x * (L * minute) + L * 30_000

-- the square of a number within h of a
square_near : (h x a : ℕ) → x ≤ a + h → x * x ≤ a * a + (2 * h * a + h * h)
square_near h x a near = omega (arith, mul-le-mul near near)

record SquaresNear (L x a : ℕ) : Type 0 where
  up : L * L * (minute * minute * (x * x)) ≤ a * a + (minute * (L * a) + L * L * 900_000_000)
  down : a * a ≤ L * L * (minute * minute * (x * x)) + (minute * (L * a) + 3 * (L * L * 900_000_000))

squares_near : {L x a : ℕ} → Rounded L x a → SquaresNear L x a
squares_near {L} {x} {a} rounded =
    record {
      up = omega (arith, square_near (L * 30_000) (x * (L * minute)) a rounded.low);
      down = omega (arith, square_near (L * 30_000) a (x * (L * minute)) rounded.high, mul-le-mul_left L rounded.low);
    }

-- s² + c² is within 3 U of U²
pub record NearCircle (s c : ℕ) : Type 0 where
  pub not_outside : s * s + c * c ≤ unit * unit + 3 * unit
  pub not_inside : unit * unit ≤ s * s + c * c + 3 * unit

-- The same on the scale of the numerators: X and Y are the squares of what is rounded, l and m what the rounding of each may add.
sum_outer :
    (X Y A B l m p E D : ℕ) →
    X ≤ A + (minute * l + p) →
    Y ≤ B + (minute * m + p) →
    100 * (A + B) ≤ minute * (100 * E + 141 * D) →
    2 * (l + m) ≤ 3 * D →
    1000 * p ≤ minute * D →
    X + Y ≤ minute * (E + 3 * D)
sum_outer X Y A B l m p E D x y high both small = omega arith

sum_inner :
    (X Y A B l m p E D : ℕ) →
    A ≤ X + (minute * l + 3 * p) →
    B ≤ Y + (minute * m + 3 * p) →
    minute * (100 * E) ≤ 100 * (A + B) + minute * (141 * D) →
    2 * (l + m) ≤ 3 * D →
    1000 * p ≤ minute * D →
    minute * E ≤ X + Y + minute * (3 * D)
sum_inner X Y A B l m p E D x y low both small = omega arith

-- what both lemmas compare, written as a multiple of one square
two_squares : (L x y : ℕ) → L * L * (minute * minute * (x * x)) + L * L * (minute * minute * (y * y)) ≡ L * L * (minute * minute) * (x * x + y * y)
two_squares L x y = omega arith

two_squares_more :
    (L x y : ℕ) →
    L * L * (minute * minute * (x * x)) + L * L * (minute * minute * (y * y)) + minute * (3 * thin L)
    ≡ L * L * (minute * minute) * (x * x + y * y + 3 * unit)
unfolding thin
two_squares_more L x y = omega arith

radius : (L : ℕ) → minute * full L ≡ L * L * (minute * minute) * (unit * unit)
unfolding full
radius L = omega arith

outer_radius : (L : ℕ) → minute * (full L + 3 * thin L) ≡ L * L * (minute * minute) * (unit * unit + 3 * unit)
unfolding full thin
outer_radius L = omega arith

-- 9/8 of the square of U hold a sum that is near it
not_far : (sum E D : ℕ) → 100 * sum ≤ minute * (100 * E + 141 * D) → 100 * D ≤ E → 8 * sum ≤ 9 * (minute * E)
not_far sum E D high little = omega arith

-- Where a² + b² is near the radius, so is the sum of the squares of x and y.
module _ (L a b x y : ℕ) (some-L : 0 < L) (near : NearRadius L a b) (sine-rounded : Rounded L x a) (cosine-rounded : Rounded L y b) where
  square : ℕ
  square = L * L * (minute * minute)

  some_square : 0 < square
  unfolding square
  some_square = omega (arith, mul-le-mul some-L some-L)

  -- what both roundings may add
  both : 2 * (L * a + L * b) ≤ 3 * thin L
  unfolding thin
  both =
      let far : 8 * (a * a + b * b) ≤ 9 * (minute * full L) = not_far (a * a + b * b) (full L) (thin L) near.high (omega (arith, full_thin L)) in
      let turned : 2 * (a + b) ≤ 3 * (L * (minute * unit)) = sum_by_squares a b (L * (minute * unit)) (rw (full_square L) at far) in
      scaled (mul-le-mul_left L turned)
    where
      scaled : L * (2 * (a + b)) ≤ L * (3 * (L * (minute * unit))) → 2 * (L * a + L * b) ≤ 3 * (L * L * (minute * unit))
      scaled h = omega arith

  little : 1000 * (L * L * 900_000_000) ≤ minute * thin L
  unfolding thin
  little = omega arith

  outer : square * (x * x + y * y) ≤ square * (unit * unit + 3 * unit)
  unfolding square
  outer =
      subst₂ ◌≤◌ (two_squares L x y) (outer_radius L)
      (sum_outer (L * L * (minute * minute * (x * x))) (L * L * (minute * minute * (y * y))) (a * a) (b * b) (L * a) (L * b) (L * L * 900_000_000)
      (full L) (thin L) (squares_near sine-rounded).up (squares_near cosine-rounded).up near.high both little)

  inner : square * (unit * unit) ≤ square * (x * x + y * y + 3 * unit)
  unfolding square
  inner =
      subst₂ ◌≤◌ (radius L) (two_squares_more L x y)
      (sum_inner (L * L * (minute * minute * (x * x))) (L * L * (minute * minute * (y * y))) (a * a) (b * b) (L * a) (L * b) (L * L * 900_000_000)
      (full L) (thin L) (squares_near sine-rounded).down (squares_near cosine-rounded).down near.low both little)

  pub rounded_circle : NearCircle x y
  rounded_circle =
      record { not_outside = le_of_mul-le-mul_left outer some_square; not_inside = le_of_mul-le-mul_left inner some_square }

-- ---- numerators near the circle

-- A point of the chord between two points of the circle, s and c + d, then s + e and c, moved out by x times s and c.
moved_out :
    (L x a b s c : ℕ) →
    (L * a + x * s) * (L * a + x * s) + (L * b + x * c) * (L * b + x * c)
    ≡ L * L * (a * a + b * b) + L * (2 * (x * (a * s + b * c))) + x * x * (s * s + c * c)
moved_out L x a b s c = omega arith

on_chord :
    (q r s e c d : ℕ) →
    (q * s + r * (s + e)) * (q * s + r * (s + e)) + (q * (c + d) + r * c) * (q * (c + d) + r * c) + q * r * chord e d
    ≡ (q + r) * (q * (s * s + (c + d) * (c + d)) + r * ((s + e) * (s + e) + c * c))
on_chord q r s e c d = omega arith

-- how far a move by s and c is along the radius
outward :
    (q r s e c d : ℕ) →
    (q * s + r * (s + e)) * s + (q * (c + d) + r * c) * c ≡ q * (s * s + (c + d) * c) + r * (s * (s + e) + c * c)
outward q r s e c d = omega arith

-- The sum of the squares, from those of the chord's point, its distance from the arc, its way out, and the square of the move.
sum_high :
    (E D square sag ends out move : ℕ) →
    square + sag ≡ minute * ends →
    out ≤ sag + 300 * D →
    move ≤ D →
    5 * ends ≤ 5 * E + 7 * D →
    100 * (square + out + move) ≤ minute * (100 * E + 141 * D)
sum_high E D square sag ends out move on-it out_high move_small ends_high = omega arith

sum_low :
    (E D square sag ends out move : ℕ) →
    square + sag ≡ minute * ends →
    sag ≤ out + 300 * D →
    5 * E ≤ 5 * ends + 7 * D →
    minute * (100 * E) ≤ 100 * (square + out + move) + minute * (141 * D)
sum_low E D square sag ends out move on-it out_low ends_low = omega arith

-- bounds times L, or times its square
times_high : (L x sag : ℕ) → x ≤ L * sag + L * 18_000_000_000_000_000 → L * x ≤ L * L * sag + 300 * thin L
unfolding thin
times_high L x sag h = subst₂ ◌≤◌ refl (omega arith) (mul-le-mul_left L h)

times_low : (L x sag : ℕ) → L * sag ≤ x + L * 18_000_000_000_000_000 → L * L * sag ≤ L * x + 300 * thin L
unfolding thin
times_low L x sag h = subst₂ ◌≤◌ (omega arith) (omega arith) (mul-le-mul_left L h)

times_move : (L move size : ℕ) → 1_575 * move ≤ L → size ≤ 2 * (unit * unit) → move * move * size ≤ thin L
unfolding thin
times_move L move size m small = omega (arith, mul-le-mul (mul-le-mul m m) small)

times_ends : (L ends : ℕ) → 5 * ends ≤ minute * (5 * (unit * unit) + 7 * unit) → 5 * (L * L * ends) ≤ 5 * full L + 7 * thin L
unfolding full thin
times_ends L ends h = subst₂ ◌≤◌ (omega arith) (omega arith) (mul-le-mul_left (L * L) h)

times_ends_low : (L ends : ℕ) → minute * (5 * (unit * unit)) ≤ 5 * ends + minute * (7 * unit) → 5 * full L ≤ 5 * (L * L * ends) + 7 * thin L
unfolding full thin
times_ends_low L ends h = subst₂ ◌≤◌ (omega arith) (omega arith) (mul-le-mul_left (L * L) h)

-- Two points of the circle, (s, c + d) and then (s + e, c), as exact as the table is, and the point of the arc between them, q to r.
module _
    (q r s e c d : ℕ)
    (whole : q + r ≡ minute)
    (first : OnCircle s (c + d))
    (second : OnCircle (s + e) c)
    (bend : Arc s (s + e) e (c + d) c d)
    (small : s * s + c * c ≤ 2 * (unit * unit)) where
  -- the point of the chord
  unfoldable pub across : ℕ
  across = q * s + r * (s + e)

  unfoldable pub up : ℕ
  up = q * (c + d) + r * c

  -- how far it is moved, for each unit of s and c
  unfoldable pub move : ℕ
  move = curve * (q * r)

  ends : ℕ
  ends = q * (s * s + (c + d) * (c + d)) + r * ((s + e) * (s + e) + c * c)

  sag : ℕ
  sag = q * r * chord e d

  chord_square : across * across + up * up + sag ≡ minute * ends
  unfolding across up sag ends
  chord_square = rw (on_chord q r s e c d) (ap (λ (n : ℕ). n * ends) whole)

  ends_high : 5 * ends ≤ minute * (5 * (unit * unit) + 7 * unit)
  unfolding ends
  ends_high =
      omega (arith, mul-le-mul_left q first.not_outside, mul-le-mul_left r second.not_outside)

  ends_low : minute * (5 * (unit * unit)) ≤ 5 * ends + minute * (7 * unit)
  unfolding ends
  ends_low =
      omega (arith, mul-le-mul_left q first.not_inside, mul-le-mul_left r second.not_inside)

  product : 4 * (q * r) ≤ minute * minute
  product = rw whole at (mean q r)

  move_small : 1_575 * move ≤ per_mas
  unfolding move
  move_small = omega (arith, product)

  -- the move along the radius, against the chord's distance from the arc
  lift : ℕ
  lift = curve * (across * s + up * c)

  lift_is : lift ≡ q * (curve * (s * s + (c + d) * c)) + r * (curve * (s * (s + e) + c * c))
  unfolding lift across up
  lift_is = rw (outward q r s e c d) (omega arith)

  lift_high : lift ≤ minute * (half_fine * chord e d + arc_error)
  lift_high = rw (lift_is, ← whole) (omega (arith, mul-le-mul_left q bend.first_high, mul-le-mul_left r bend.last_high))

  lift_low : minute * (half_fine * chord e d) ≤ lift + minute * arc_error
  lift_low = rw (lift_is, ← whole) (omega (arith, mul-le-mul_left q bend.first_low, mul-le-mul_left r bend.last_low))

  out_high : 2 * (q * r * lift) ≤ per_mas * sag + per_mas * 18_000_000_000_000_000
  unfolding sag
  out_high = omega (arith, mul-le-mul_left (q * r) lift_high, product)

  out_low : per_mas * sag ≤ 2 * (q * r * lift) + per_mas * 18_000_000_000_000_000
  unfolding sag
  out_low = omega (arith, mul-le-mul_left (q * r) lift_low, product)

  -- all of it on the scale of the numerators
  module _ (L : ℕ) (is : L ≡ per_mas) where
    scaled_square : L * L * (across * across + up * up) + L * L * sag ≡ minute * (L * L * ends)
    scaled_square = omega (arith, ap (λ (n : ℕ). L * L * n) chord_square)

    scaled_out : L * (2 * (move * (across * s + up * c))) ≡ L * (2 * (q * r * lift))
    unfolding move lift
    scaled_out = omega arith

    scaled_high : L * (2 * (move * (across * s + up * c))) ≤ L * L * sag + 300 * thin L
    scaled_high = rw scaled_out (times_high L (2 * (q * r * lift)) sag (rw is out_high))

    scaled_low : L * L * sag ≤ L * (2 * (move * (across * s + up * c))) + 300 * thin L
    scaled_low = rw scaled_out (times_low L (2 * (q * r * lift)) sag (rw is out_low))

    scaled_move : move * move * (s * s + c * c) ≤ thin L
    scaled_move = times_move L move (s * s + c * c) (rw is move_small) small

    pub near_radius : NearRadius L (L * across + move * s) (L * up + move * c)
    near_radius =
        let squares : ℕ = L * L * (across * across + up * up) in
        let out : ℕ = L * (2 * (move * (across * s + up * c))) in
        let rest : ℕ = move * move * (s * s + c * c) in
        let parts = moved_out L move across up s c in
        record {
          high =
              rw parts
              (sum_high (full L) (thin L) squares (L * L * sag) (L * L * ends) out rest scaled_square scaled_high scaled_move (times_ends L ends ends_high));
          low =
              rw parts
              (sum_low (full L) (thin L) squares (L * L * sag) (L * L * ends) out rest scaled_square scaled_low (times_ends_low L ends ends_low));
        }
