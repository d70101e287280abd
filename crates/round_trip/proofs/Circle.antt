-- More laws of sine and cosine for every integer angle, which follow from those of `trig`: reflections, whole turns, and bounds on the cosine and on
-- sine² + cosine². Nothing here looks behind the interface of `trig`. Assumes nothing.
use mathlib.Core.Path.{◌≡◌, sym, ap, ◌∙◌}
use mathlib.Core.List.{[], ◌∷◌}
use Prim.Native.Nat.{ℕ, zero, suc, ◌+◌, ◌-◌, ◌*◌, ◌≤◌}
use native.Mathlib.Omega.{arith}
use lib.Signed.{◌≤ℤ◌}
use lib.IntN.{ℤ, pos, negsuc, neg_ℤ, nat_abs, ◌+ℤ◌, ◌-ℤ◌, ◌*ℤ◌, +ℤ_idr, +ℤ_assoc, -ℤ-+ℤ_cancel}
use Rattle.proof_kit.proofs.Laws.{by_parts, nat_abs_parts, parts-+, parts--}
use Rattle.proof_kit.proofs.Ring.{ring, quote}
use Rattle.proof_kit.proofs.Order.{order, abs_upper, abs_square_le}
use Rattle.proof_kit.proofs.Size.{abs_sub_sym}
use Rattle.proof_kit.proofs.Certificate.{certify, nonneg}
use Rattle.units.specs.Units.{unit, minute, right_angle, half_turn, full_turn}
use Rattle.trig.specs.Sine.{sine, cosine}
use Rattle.trig.proofs.Interface.{A, sine_supplement, sine_full_turn, sine_quarter_turn, cosine_quarter_turn, cosine_complement, sine_change, near_circle}

-- ---- reflections

-- sine(90° − t) = cosine(t)
pub sine_complement : (t : ℤ) → sine (pos right_angle -ℤ t) ≡ cosine t
sine_complement t =
    let e : pos half_turn -ℤ (pos right_angle -ℤ t) ≡ t +ℤ pos right_angle = ring (t ∷ []) (search quote depth 40 fits 20000) tt in
    sym (sine_supplement (pos right_angle -ℤ t)) ∙ ap sine e ∙ sine_quarter_turn t

-- cosine(180° − t) = −cosine(t)
pub cosine_supplement : (t : ℤ) → cosine (pos half_turn -ℤ t) ≡ neg_ℤ (cosine t)
cosine_supplement t =
    let e : pos half_turn -ℤ t ≡ pos right_angle -ℤ t +ℤ pos right_angle = ring (t ∷ []) (search quote depth 40 fits 20000) tt in
    ap cosine e ∙ cosine_quarter_turn (pos right_angle -ℤ t) ∙ ap neg_ℤ (sine_complement t)

-- a difference of naturals that is not negative
pub pos_minus : (a b : ℕ) → b ≤ a → pos a -ℤ pos b ≡ pos (a - b)
pos_minus a b h = by_parts (pos a -ℤ pos b) (pos (a - b)) (omega (arith, parts-- (pos a) (pos b)))

-- θ before 90° the sine is the cosine of θ, and the cosine its sine
pub sine_before : (θ : ℕ) → θ ≤ right_angle → sine (pos (right_angle - θ)) ≡ cosine (pos θ)
sine_before θ h = rw (pos_minus right_angle θ h) at (sine_complement (pos θ))

pub cosine_before : (θ : ℕ) → θ ≤ right_angle → cosine (pos (right_angle - θ)) ≡ sine (pos θ)
cosine_before θ h = rw (pos_minus right_angle θ h) at (cosine_complement (pos θ))

-- ---- whole turns

-- n turns forwards
sine_forwards : (n : ℕ) (t : ℤ) → sine (t +ℤ pos (n * full_turn)) ≡ sine t
sine_forwards zero t = ap sine (+ℤ_idr t)
sine_forwards (suc n) t =
    let e : suc n * full_turn ≡ n * full_turn + full_turn = omega arith in
    rw (e, ← (+ℤ_assoc t (pos (n * full_turn)) (pos full_turn)), sine_full_turn (t +ℤ pos (n * full_turn))) (sine_forwards n t)

-- any number of turns, either way
pub sine_turns : (j t : ℤ) → sine (t +ℤ j *ℤ pos full_turn) ≡ sine t
sine_turns (pos n) t = sine_forwards n t
sine_turns (negsuc n) t =
    let back : ℤ = t -ℤ pos (suc n * full_turn) in
    sym (sine_forwards (suc n) back) ∙ ap sine (-ℤ-+ℤ_cancel t (pos (suc n * full_turn)))

-- the same for the cosine
pub cosine_turns : (j t : ℤ) → cosine (t +ℤ j *ℤ pos full_turn) ≡ cosine t
cosine_turns j t =
    let e : t +ℤ j *ℤ pos full_turn +ℤ pos right_angle ≡ t +ℤ pos right_angle +ℤ j *ℤ pos full_turn = ring (t ∷ j ∷ []) (search quote depth 40 fits 20000) tt in
    sym (sine_quarter_turn (t +ℤ j *ℤ pos full_turn)) ∙ ap sine e ∙ sine_turns j (t +ℤ pos right_angle) ∙ sine_quarter_turn t

-- ---- the cosine's change

-- a quarter turn and n mas, in either order
pub swap_turn : (t : ℤ) (n : ℕ) → t +ℤ pos right_angle +ℤ pos n ≡ t +ℤ pos n +ℤ pos right_angle
swap_turn t n = ring (t ∷ pos n ∷ []) (search quote depth 40 fits 20000) tt

-- a number that is within d of another is at most d below it
at_most_below : (x y : ℤ) (d : ℕ) → nat_abs (x -ℤ y) ≤ d → y ≤ℤ (x +ℤ pos d)
at_most_below x y d h = omega (order, nat_abs_parts (x -ℤ y), parts-- x y, parts-+ x (pos d))

-- by n mas the cosine changes by at most 5n
cosine_change : (n : ℕ) (t : ℤ) → nat_abs (cosine (t +ℤ pos n) -ℤ cosine t) ≤ 5 * n
cosine_change n t = rw (swap_turn t n, sine_quarter_turn (t +ℤ pos n), sine_quarter_turn t) at (sine_change n (t +ℤ pos right_angle))

-- within a minute the cosine falls by at most 300,000
pub cosine_near : (n : ℕ) (t : ℤ) → n ≤ minute → cosine t ≤ℤ (cosine (t +ℤ pos n) +ℤ pos 300_000)
cosine_near n t h = at_most_below (cosine (t +ℤ pos n)) (cosine t) 300_000 (omega (arith, cosine_change n t))

-- ---- sine² + cosine²

-- it is at least U² − A·U
pub outside_circle : (t : ℤ) → (pos unit *ℤ pos unit) ≤ℤ (sine t *ℤ sine t +ℤ cosine t *ℤ cosine t +ℤ pos (A * unit))
outside_circle t = at_most_below (sine t *ℤ sine t +ℤ cosine t *ℤ cosine t) (pos unit *ℤ pos unit) (A * unit) (near_circle t)

-- it is at most U² + A·U
inside_circle : (t : ℤ) → (sine t *ℤ sine t +ℤ cosine t *ℤ cosine t) ≤ℤ (pos unit *ℤ pos unit +ℤ pos (A * unit))
inside_circle t =
    at_most_below (pos unit *ℤ pos unit) (sine t *ℤ sine t +ℤ cosine t *ℤ cosine t) (A * unit)
    (rw (abs_sub_sym (pos unit *ℤ pos unit) (sine t *ℤ sine t +ℤ cosine t *ℤ cosine t)) (near_circle t))

-- inside that circle the sum of the coordinates is at most 3/2 U
sum_inside : (s c : ℤ) → (s *ℤ s +ℤ c *ℤ c) ≤ℤ (pos unit *ℤ pos unit +ℤ pos (A * unit)) → (pos 2 *ℤ (s +ℤ c)) ≤ℤ pos (3 * unit)
sum_inside s c h = abs_upper (pos 2 *ℤ (s +ℤ c)) (abs_square_le (pos 2 *ℤ (s +ℤ c)) (pos (3 * unit)) squares)
  where
    squares : (pos 2 *ℤ (s +ℤ c) *ℤ (pos 2 *ℤ (s +ℤ c))) ≤ℤ (pos (3 * unit) *ℤ pos (3 * unit))
    squares =
        certify (s ∷ c ∷ []) 1
        (pos 8 *ℤ (pos unit *ℤ pos unit +ℤ pos (A * unit) -ℤ (s *ℤ s +ℤ c *ℤ c))
        +ℤ pos 4 *ℤ ((s -ℤ c) *ℤ (s -ℤ c))
        +ℤ pos (unit * unit - 8 * A * unit))
        (search nonneg depth 40 fits 20000) (search quote depth 40 fits 20000) tt

-- at no angle is sine + cosine above 3/2 U
pub sine_plus_cosine : (t : ℤ) → (pos 2 *ℤ (sine t +ℤ cosine t)) ≤ℤ pos (3 * unit)
sine_plus_cosine t = sum_inside (sine t) (cosine t) (inside_circle t)
