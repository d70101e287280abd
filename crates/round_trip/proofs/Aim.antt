-- If (f, g) is W/U times the direction of t, but for errors of at most x and y, then its angle α is near t: 24·|α − t|·W is at most (5(x + y) + 34)·U, where
-- whole turns do not count. No sign of f or g is compared with one of t: if α were further off, the cross law at t and the sides of (f, g) before α would
-- disagree. Assumes nothing.
use mathlib.Core.Path.{◌≡◌, ap, ◌∙◌}
use mathlib.Core.List.{[], ◌∷◌}
use Prim.Native.Nat.{ℕ, zero, suc, ◌+◌, ◌-◌, ◌*◌, ◌<◌, ◌≤◌}
use native.Mathlib.Decide.{dec_le}
use native.Mathlib.Omega.{arith}
use lib.Signed.{◌≤ℤ◌}
use lib.IntN.{ℤ, pos, negsuc, neg_ℤ, nat_abs, ◌+ℤ◌, ◌-ℤ◌, ◌*ℤ◌, neg_ℤ-+ℤ}
use Rattle.proof_kit.proofs.Laws.{by_parts, parts-+, parts--}
use Rattle.proof_kit.proofs.Ring.{ring, quote}
use Rattle.proof_kit.proofs.Order.{order, pos-≤, abs_upper}
use Rattle.proof_kit.proofs.Size.{sizes, abs_by, abs_neg}
use Rattle.proof_kit.proofs.Certificate.{certify, nonneg}
use Rattle.units.specs.Units.{unit, minute, right_angle, half_turn, full_turn}
use Rattle.trig.specs.Sine.{sine, cosine}
use Rattle.trig.proofs.Interface.{A, sine_odd, cosine_even, sine_size, cosine_size}
use Rattle.round_trip.proofs.Numerals.{least_cosine}
use Rattle.round_trip.proofs.Circle.{sine_turns, cosine_turns, outside_circle}
use Rattle.round_trip.proofs.Cross.{cross, cross_right, cross_law}
use Rattle.round_trip.proofs.Sector.{side, Sector, sector_opposite}

-- (f, g) is W/U times the direction of t, but for errors of at most x and y
record Near (W x y : ℕ) (f g t : ℤ) : Type 0 where
  first : nat_abs (pos unit *ℤ f -ℤ pos W *ℤ cosine t) ≤ unit * x
  second : nat_abs (pos unit *ℤ g -ℤ pos W *ℤ sine t) ≤ unit * y

-- both reflected at 0°
near_opposite : {W x y : ℕ} {f g t : ℤ} → Near W x y f g t → Near W x y f (neg_ℤ g) (neg_ℤ t)
near_opposite {W} {x} {y} {f} {g} {t} near =
    record { first = rw (cosine_even t) near.first; second = rw (sine_odd t, opposite (sine t)) near.second }
  where
    opposite : (s : ℤ) → nat_abs (pos unit *ℤ neg_ℤ g -ℤ pos W *ℤ neg_ℤ s) ≡ nat_abs (pos unit *ℤ g -ℤ pos W *ℤ s)
    opposite s =
        let e : pos unit *ℤ neg_ℤ g -ℤ pos W *ℤ neg_ℤ s ≡ neg_ℤ (pos unit *ℤ g -ℤ pos W *ℤ s) = ring (pos W ∷ g ∷ s ∷ []) (search quote depth 40 fits 20000) tt in
        ap nat_abs e ∙ abs_neg (pos unit *ℤ g -ℤ pos W *ℤ s)

-- t some turns further
near_turned : {W x y : ℕ} {f g t : ℤ} (j : ℤ) → Near W x y f g t → Near W x y f g (t +ℤ j *ℤ pos full_turn)
near_turned {t = t} j near = record { first = rw (cosine_turns j t) near.first; second = rw (sine_turns j t) near.second }

-- ---- facts of integers

-- the cross law, divided by U; c is the cross product of t and t + n, z the sum of the errors
from_apart :
    (n W z c : ℤ) →
    pos 0 ≤ℤ W →
    ((pos 24 *ℤ n -ℤ pos 10) *ℤ pos unit) ≤ℤ (pos 5 *ℤ c) →
    (W *ℤ c) ≤ℤ (pos unit *ℤ pos unit *ℤ z) →
    (pos 24 *ℤ (n *ℤ W)) ≤ℤ (pos 5 *ℤ z *ℤ pos unit +ℤ pos 10 *ℤ W)
from_apart n W z c W0 h k =
    let gap = pos 5 *ℤ (pos unit *ℤ pos unit *ℤ z -ℤ W *ℤ c) +ℤ W *ℤ (pos 5 *ℤ c -ℤ (pos 24 *ℤ n -ℤ pos 10) *ℤ pos unit) in
    certify (n ∷ W ∷ z ∷ c ∷ []) unit gap (search nonneg depth 40 fits 20000) (search quote depth 40 fits 20000) tt

-- the same for c the cross product of t and t + 90°
from_circle :
    (W z c : ℤ) →
    pos 0 ≤ℤ W →
    (pos unit *ℤ pos unit) ≤ℤ (c +ℤ pos (A * unit)) →
    (W *ℤ c) ≤ℤ (pos unit *ℤ pos unit *ℤ z) →
    (W *ℤ pos (unit - A)) ≤ℤ (pos unit *ℤ z)
from_circle W z c W0 h k =
    let gap = (pos unit *ℤ pos unit *ℤ z -ℤ W *ℤ c) +ℤ W *ℤ (c +ℤ pos (A * unit) -ℤ pos unit *ℤ pos unit) in
    certify (W ∷ z ∷ c ∷ []) unit gap (search nonneg depth 40 fits 20000) (search quote depth 40 fits 20000) tt

-- what is at most b above a number that is not positive is at most b
not_above : (w s b : ℤ) → (w -ℤ pos unit *ℤ s) ≤ℤ b → s ≤ℤ pos 0 → w ≤ℤ b
not_above w s b h k =
    let gap = (b -ℤ (w -ℤ pos unit *ℤ s)) +ℤ pos unit *ℤ (pos 0 -ℤ s) in
    certify (w ∷ s ∷ b ∷ []) 1 gap (search nonneg depth 40 fits 20000) (search quote depth 40 fits 20000) tt

-- what W times the cross product has over U times the side; S and C are sine and cosine of θ
split : (W f g s c S C : ℤ) → W *ℤ (S *ℤ c -ℤ C *ℤ s) -ℤ pos unit *ℤ (S *ℤ f -ℤ C *ℤ g) ≡ C *ℤ (pos unit *ℤ g -ℤ W *ℤ s) -ℤ S *ℤ (pos unit *ℤ f -ℤ W *ℤ c)
split W f g s c S C = ring (W ∷ f ∷ g ∷ s ∷ c ∷ S ∷ C ∷ []) (search quote depth 40 fits 20000) tt

-- ---- the bound

module _ {W x y : ℕ} (large : least_cosine ≤ W) (at_most : W ≤ unit) (small : x + y ≤ 1000) where
  -- for α = t + d
  module _ {f g t : ℤ} (near : Near W x y f g t) where
    -- U times the side is W times the cross product, but for the errors
    side_cross : (θ : ℤ) → nat_abs (pos W *ℤ cross t θ -ℤ pos unit *ℤ side f g θ) ≤ unit * unit * (x + y)
    unfolding cross side
    side_cross θ =
        abs_by (split (pos W) f g (sine t) (cosine t) (sine θ) (cosine θ))
        (search (sizes, cosine_size θ, sine_size θ, near.first, near.second) depth 40 fits 20000)
        (omega arith)

    -- the cross product of t and t + n is no greater than the errors, if t + n is at most 90° before α
    cross_small : (n d : ℕ) → n < d → d ≤ n + right_angle → Sector f g (t +ℤ pos d) → (pos W *ℤ cross t (t +ℤ pos n)) ≤ℤ pos (unit * unit * (x + y))
    cross_small n d h l s =
        let e : t +ℤ pos d -ℤ pos (d - n) ≡ t +ℤ pos n =
        by_parts _ _ (omega (arith, parts-- (t +ℤ pos d) (pos (d - n)), parts-+ t (pos d), parts-+ t (pos n))) in
        not_above (pos W *ℤ cross t (t +ℤ pos n)) (side f g (t +ℤ pos n)) (pos (unit * unit * (x + y)))
        (abs_upper _ (side_cross (t +ℤ pos n)))
        (rw e at (s.before (d - n) (omega arith) (omega arith)))

    -- so n is small, up to a minute
    few : (n d : ℕ) → n ≤ minute → n < d → d ≤ n + right_angle → Sector f g (t +ℤ pos d) → 24 * (n * W) ≤ 5 * (x + y) * unit + 10 * W
    few n d m h l s =
        pos-≤ (from_apart (pos n) (pos W) (pos (x + y)) (cross t (t +ℤ pos n)) (omega order) (cross_law t n m) (cross_small n d h l s))

    -- and d is not above 90°
    far : (d : ℕ) → right_angle < d → d ≤ half_turn → Sector f g (t +ℤ pos d) → ⊥
    far d h l s =
        let beyond = rw (cross_right t) at (cross_small right_angle d h (omega arith) s) in
        let circle = from_circle (pos W) (pos (x + y)) (sine t *ℤ sine t +ℤ cosine t *ℤ cosine t) (omega order) (outside_circle t) beyond in
        let c : W * (unit - A) ≤ unit * (x + y) = pos-≤ circle in
        omega arith

    -- α after t
    forwards : (d : ℕ) → d ≤ half_turn → Sector f g (t +ℤ pos d) → 24 * (d * W) ≤ (5 * (x + y) + 34) * unit
    forwards zero h s = omega arith
    forwards (suc n) h s = go (dec_le (suc n) right_angle) (dec_le n minute)
      where
        go : Dec (suc n ≤ right_angle) → Dec (n ≤ minute) → 24 * (suc n * W) ≤ (5 * (x + y) + 34) * unit
        go (yes l) (yes m) = omega (arith, few n (suc n) m (omega arith) (omega arith) s)
        go (yes l) (no m) = let z : ⊥ = omega (arith, few minute (suc n) (omega arith) (omega arith) (omega arith) s) in absurd z
        go (no l) m = absurd (far (suc n) (omega arith) h s)

  -- α after or before t: the second is the first, reflected at 0°
  either_way : {f g t : ℤ} → Near W x y f g t → (d : ℤ) → nat_abs d ≤ half_turn → Sector f g (t +ℤ d) → 24 * (nat_abs d * W) ≤ (5 * (x + y) + 34) * unit
  either_way near (pos n) h s = forwards near n h s
  either_way {t = t} near (negsuc n) h s = forwards (near_opposite near) (suc n) h (rw (neg_ℤ-+ℤ t (negsuc n)) at (sector_opposite s))

-- for α = t + d and any number j of turns
pub aim :
    (W x y : ℕ) (f g t α d j : ℤ) →
    least_cosine ≤ W →
    W ≤ unit →
    nat_abs (pos unit *ℤ f -ℤ pos W *ℤ cosine t) ≤ unit * x →
    nat_abs (pos unit *ℤ g -ℤ pos W *ℤ sine t) ≤ unit * y →
    x + y ≤ 1000 →
    Sector f g α →
    α ≡ t +ℤ d +ℤ j *ℤ pos full_turn →
    nat_abs d ≤ half_turn →
    24 * (nat_abs d * W) ≤ (5 * (x + y) + 34) * unit
aim W x y f g t α d j large at_most first second small s e h =
    let turned : t +ℤ d +ℤ j *ℤ pos full_turn ≡ t +ℤ j *ℤ pos full_turn +ℤ d = ring (t ∷ d ∷ j ∷ []) (search quote depth 40 fits 20000) tt in
    either_way large at_most small (near_turned j (record { first = first; second = second })) d h (rw (e ∙ turned) at s)
