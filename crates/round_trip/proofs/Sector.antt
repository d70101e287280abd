-- The angle of two numbers f and g. All that is used of an angle α is on which side of it (f, g) lies: sine(θ)·f − cosine(θ)·g is not negative in the 90°
-- after α, and not positive in the 90° before it. This holds of the angles that the projection computes, in all quadrants: in the first by the laws of
-- sine, in the others by reflections. Assumes nothing.
use mathlib.Core.Path.{◌≡◌}
use mathlib.Core.Bool.{cond}
use mathlib.Core.List.{[], ◌∷◌}
use mathlib.Core.Logic.{◌⊎◌, inl, inr}
use Prim.Native.Nat.{ℕ, suc, ◌+◌, ◌-◌, ◌<◌, ◌≤◌}
use native.Mathlib.Decide.{dec_le, ℕ_discrete}
use native.Mathlib.Nat.{le_of_lt, not-le_of_lt}
use native.Mathlib.Omega.{arith}
use lib.Signed.{◌≤ℤ◌, ◌<ℤ◌, lt_z}
use lib.IntN.{ℤ, pos, negsuc, neg_ℤ, nat_abs, ◌+ℤ◌, ◌-ℤ◌, ◌*ℤ◌, +ℤ_idl, *ℤ-zero, *ℤ_comm}
use Rattle.proof_kit.proofs.Laws.{by_parts, parts--}
use Rattle.proof_kit.proofs.Ring.{ring, quote}
use Rattle.proof_kit.proofs.Order.{<ℤ-≤ℤ, ≤ℤ-total, negℤ-mono, le_lt_z, le_z_true, le_le_z}
use Rattle.proof_kit.proofs.Certificate.{certify, nonneg, nonneg_gap, nonneg_num, nonneg-*}
use Rattle.integers.specs.Near.{signed}
use Rattle.integers.specs.Greatest.{greatest}
use Rattle.integers.proofs.Greatest.{greatest_le, greatest_passes, greatest_ge}
use Rattle.units.specs.Units.{right_angle, half_turn}
use Rattle.trig.specs.Sine.{sine, cosine}
use Rattle.angles.specs.Angle.{under, angle}
use Rattle.trig.proofs.Interface.{sine_odd, sine_supplement, sine_quarter_turn, cosine_quarter_turn, cosine_even, cosine_complement}
use Rattle.trig.proofs.Interface.{sine_nonneg, cosine_nonneg, sine_mono, cosine_anti}
use Rattle.angles.specs.InnerThreshold.{under_zero, under_falls}
use Rattle.angles.proofs.Angles.{angle_none, angle_some}
use Rattle.round_trip.proofs.Circle.{pos_minus, sine_complement, cosine_supplement, sine_before, cosine_before}

-- on which side of the direction θ the direction (f, g) lies
unfoldable pub side : ℤ → ℤ → ℤ → ℤ
side f g θ = sine θ *ℤ f -ℤ cosine θ *ℤ g

-- α serves as the angle of (f, g)
pub record Sector (f g α : ℤ) : Type 0 where
  pub after : (n : ℕ) → 0 < n → n ≤ right_angle → pos 0 ≤ℤ side f g (α +ℤ pos n)
  pub before : (n : ℕ) → 0 < n → n ≤ right_angle → side f g (α -ℤ pos n) ≤ℤ pos 0

-- ---- reflections

-- where the side of (f', g') at m − θ is opposite to that of (f, g) at θ, the angle α becomes m − α
reflected : {f g f' g' α : ℤ} (m : ℤ) → ((θ : ℤ) → side f' g' (m -ℤ θ) ≡ neg_ℤ (side f g θ)) → Sector f g α → Sector f' g' (m -ℤ α)
reflected {α = α} m opposite s =
    record {
      after = λ n p h. rw (later n, opposite (α -ℤ pos n)) (negℤ-mono (s.before n p h));
      before = λ n p h. rw (earlier n, opposite (α +ℤ pos n)) (negℤ-mono (s.after n p h));
    }
  where
    later : (n : ℕ) → m -ℤ α +ℤ pos n ≡ m -ℤ (α -ℤ pos n)
    later n = ring (m ∷ α ∷ pos n ∷ []) (search quote depth 40 fits 20000) tt

    earlier : (n : ℕ) → m -ℤ α -ℤ pos n ≡ m -ℤ (α +ℤ pos n)
    earlier n = ring (m ∷ α ∷ pos n ∷ []) (search quote depth 40 fits 20000) tt

-- at 0° g changes its sign
side_opposite : (f g θ : ℤ) → side f (neg_ℤ g) (pos 0 -ℤ θ) ≡ neg_ℤ (side f g θ)
unfolding side
side_opposite f g θ =
    rw (+ℤ_idl (neg_ℤ θ), sine_odd θ, cosine_even θ) (ring (f ∷ g ∷ sine θ ∷ cosine θ ∷ []) (search quote depth 40 fits 20000) tt)

-- at 45° f and g change places
side_complement : (f g θ : ℤ) → side g f (pos right_angle -ℤ θ) ≡ neg_ℤ (side f g θ)
unfolding side
side_complement f g θ =
    rw (sine_complement θ, cosine_complement θ) (ring (f ∷ g ∷ sine θ ∷ cosine θ ∷ []) (search quote depth 40 fits 20000) tt)

-- at 90° f changes its sign
side_supplement : (f g θ : ℤ) → side (neg_ℤ f) g (pos half_turn -ℤ θ) ≡ neg_ℤ (side f g θ)
unfolding side
side_supplement f g θ =
    rw (sine_supplement θ, cosine_supplement θ) (ring (f ∷ g ∷ sine θ ∷ cosine θ ∷ []) (search quote depth 40 fits 20000) tt)

-- the angle of (f, −g) is that of (f, g) with its sign changed
pub sector_opposite : {f g α : ℤ} → Sector f g α → Sector f (neg_ℤ g) (neg_ℤ α)
sector_opposite {f} {g} {α} s = rw (+ℤ_idl (neg_ℤ α)) at (reflected (pos 0) (side_opposite f g) s)

-- ---- the first quadrant

-- of the angles from 0 to 90°, those before a are on one side of the direction (p, q), and those after a on the other
pub record Edge (p q : ℤ) (a : ℕ) : Type 0 where
  pub p_nonneg : pos 0 ≤ℤ p
  pub q_nonneg : pos 0 ≤ℤ q
  pub in_quarter : a ≤ right_angle
  pub before : (θ : ℕ) → θ < a → (sine (pos θ) *ℤ p) ≤ℤ (cosine (pos θ) *ℤ q)
  pub after : (θ : ℕ) → a < θ → θ ≤ right_angle → (cosine (pos θ) *ℤ q) ≤ℤ (sine (pos θ) *ℤ p)

-- from 90° to 180° the sine is not negative, and the cosine not positive
past_right : {p q : ℤ} → pos 0 ≤ℤ p → pos 0 ≤ℤ q → (θ : ℕ) → θ ≤ right_angle → pos 0 ≤ℤ side p q (pos θ +ℤ pos right_angle)
unfolding side
past_right {p} {q} p0 q0 θ h =
    rw (sine_quarter_turn (pos θ), cosine_quarter_turn (pos θ))
    (sum (sine (pos θ)) (cosine (pos θ)) (sine_nonneg θ (omega arith)) (cosine_nonneg (pos θ) h))
  where
    sum : (s c : ℤ) → pos 0 ≤ℤ s → pos 0 ≤ℤ c → pos 0 ≤ℤ (c *ℤ p -ℤ neg_ℤ s *ℤ q)
    sum s c s0 c0 =
        certify (s ∷ c ∷ p ∷ q ∷ []) 1 (c *ℤ p +ℤ s *ℤ q) (search nonneg depth 40 fits 20000) (search quote depth 40 fits 20000) tt

-- the 90° after a
after_edge : {p q : ℤ} {a : ℕ} → Edge p q a → (n : ℕ) → 0 < n → n ≤ right_angle → pos 0 ≤ℤ side p q (pos (a + n))
unfolding side
after_edge {p} {q} {a} e n positive h = go (dec_le (a + n) right_angle)
  where
    go : Dec (a + n ≤ right_angle) → pos 0 ≤ℤ side p q (pos (a + n))
    go (yes l) = nonneg_gap (e.after (a + n) (omega arith) l)
    go (no l) =
        let over : ℕ = a + n - right_angle in
        let f : over + right_angle ≡ a + n = omega arith in
        rw f at (past_right e.p_nonneg e.q_nonneg over (omega (arith, e.in_quarter)))

-- (q, p) has the angle 90° − a
edge_complement : {p q : ℤ} {a : ℕ} → Edge p q a → Edge q p (right_angle - a)
edge_complement e =
    record {
      p_nonneg = e.q_nonneg;
      q_nonneg = e.p_nonneg;
      in_quarter = omega arith;
      before = λ θ h. rw (sine_before θ (omega arith), cosine_before θ (omega arith)) at (e.after (right_angle - θ) (omega arith) (omega arith));
      after = λ θ h l. rw (sine_before θ l, cosine_before θ l) at (e.before (right_angle - θ) (omega arith));
    }

-- so the 90° before a are the 90° after that
before_edge : {p q : ℤ} {a : ℕ} → Edge p q a → (n : ℕ) → 0 < n → n ≤ right_angle → side p q (pos a -ℤ pos n) ≤ℤ pos 0
before_edge {p} {q} {a} e n positive h =
    let back : pos a -ℤ pos n ≡ pos right_angle -ℤ pos (right_angle - a + n) =
    by_parts _ _ (omega (arith, e.in_quarter, parts-- (pos a) (pos n), parts-- (pos right_angle) (pos (right_angle - a + n)))) in
    rw (back, side_complement q p (pos (right_angle - a + n))) (negℤ-mono (after_edge (edge_complement e) n positive h))

-- both
quarter_sector : {p q : ℤ} {a : ℕ} → Edge p q a → Sector p q (pos a)
quarter_sector e = record { after = after_edge e; before = before_edge e }

-- ---- all quadrants

-- where f is negative, the angle is taken from 180°
upper_sector : (f : ℤ) {q : ℤ} {a : ℕ} → Edge (pos (nat_abs f)) q a → Sector f q (pos (cond (lt_z f (pos 0)) (half_turn - a) a))
upper_sector (pos p) e = rw (le_lt_z (nonneg_num p)) (quarter_sector e)
upper_sector (negsuc p) {q} {a} e =
    rw (pos_minus half_turn a (omega (arith, e.in_quarter))) at (reflected (pos half_turn) (side_supplement (pos (suc p)) q) (quarter_sector e))

-- where g is negative, so is the angle
signed_sector : {f : ℤ} (g : ℤ) {b : ℕ} → Sector f (pos (nat_abs g)) (pos b) → Sector f g (signed (lt_z g (pos 0)) b)
signed_sector (pos q) s = rw (le_lt_z (nonneg_num q)) s
signed_sector (negsuc q) s = sector_opposite s

-- any f and g, from the angle of their sizes
pub sector : (f g : ℤ) (a : ℕ) → Edge (pos (nat_abs f)) (pos (nat_abs g)) a → Sector f g (signed (lt_z g (pos 0)) (cond (lt_z f (pos 0)) (half_turn - a) a))
sector f g a e = signed_sector g (upper_sector f e)

-- ---- g = 0

-- every angle is after 0
edge_zero : (p : ℤ) → pos 0 ≤ℤ p → Edge p (pos 0) 0
edge_zero p h =
    record {
      p_nonneg = h;
      q_nonneg = nonneg_num 0;
      in_quarter = omega arith;
      before = λ θ k. let z : ⊥ = omega arith in absurd z;
      after = λ θ k l. rw (*ℤ-zero (cosine (pos θ))) (nonneg-* (sine_nonneg θ (omega arith)) h);
    }

-- 0 is the angle of (f, 0)
pub zero_sector : (f : ℤ) → pos 0 ≤ℤ f → Sector f (pos 0) (pos 0)
zero_sector f h = quarter_sector (edge_zero f h)

-- ---- cosine and sine

-- from 0 to 90° the greater angle has the greater sine and the smaller cosine
crossing : (a b : ℕ) → a ≤ b → b ≤ right_angle → (sine (pos a) *ℤ cosine (pos b)) ≤ℤ (cosine (pos a) *ℤ sine (pos b))
crossing a b h l =
    box (sine (pos a)) (cosine (pos a)) (sine (pos b)) (cosine (pos b))
    (sine_nonneg a (omega arith)) (cosine_nonneg (pos a) (omega arith)) (sine_mono a b h l) (cosine_anti a b h l)
  where
    box : (s c s' c' : ℤ) → pos 0 ≤ℤ s → pos 0 ≤ℤ c → s ≤ℤ s' → c' ≤ℤ c → (s *ℤ c') ≤ℤ (c *ℤ s')
    box s c s' c' s0 c0 rise fall =
        certify (s ∷ c ∷ s' ∷ c' ∷ []) 1 (c *ℤ (s' -ℤ s) +ℤ s *ℤ (c -ℤ c')) (search nonneg depth 40 fits 20000) (search quote depth 40 fits 20000) tt

-- a parts the angles from 0 to 90° for its own cosine and sine
edge_own : (a : ℕ) → a ≤ right_angle → Edge (cosine (pos a)) (sine (pos a)) a
edge_own a h =
    record {
      p_nonneg = cosine_nonneg (pos a) h;
      q_nonneg = sine_nonneg a (omega arith);
      in_quarter = h;
      before = λ θ k. crossing θ a (le_of_lt k) h;
      after = λ θ k l. rw (*ℤ_comm (cosine (pos θ)) (sine (pos a)), *ℤ_comm (sine (pos θ)) (cosine (pos a))) (crossing a θ (le_of_lt k) l);
    }

-- t is the angle of its own cosine and sine, from −90° to 90°
pub own_sector : (t : ℤ) → nat_abs t ≤ right_angle → Sector (cosine t) (sine t) t
own_sector (pos a) h = quarter_sector (edge_own a h)
own_sector (negsuc a) h = rw (cosine_even (pos (suc a)), sine_odd (pos (suc a))) (sector_opposite (quarter_sector (edge_own (suc a) h)))

-- ---- the angle of two numbers

-- the order is total
not_less : (x y : ℤ) → (x <ℤ y → ⊥) → y ≤ℤ x
not_less x y never = go (≤ℤ-total y x)
  where
    go : (y ≤ℤ x) ⊎ (x <ℤ y) → y ≤ℤ x
    go (inl h) = h
    go (inr h) = absurd (never h)

-- the greatest angle that is under (p, q)
edge_greatest : (p q : ℕ) → Edge (pos p) (pos q) (greatest (under p q) right_angle)
unfolding under
edge_greatest p q =
    let low : greatest (under p q) right_angle ≤ right_angle = greatest_le (under p q) right_angle in
    record {
      p_nonneg = nonneg_num p;
      q_nonneg = nonneg_num q;
      in_quarter = low;
      before = λ θ h.
          le_z_true (sine (pos θ) *ℤ pos p) (cosine (pos θ) *ℤ pos q)
          (under_falls p q θ (greatest (under p q) right_angle) (le_of_lt h) low (greatest_passes (under p q) (under_zero p q) right_angle));
      after = λ θ h l.
          not_less (sine (pos θ) *ℤ pos p) (cosine (pos θ) *ℤ pos q)
          (λ k. not-le_of_lt h (greatest_ge (under p q) right_angle θ l (le_le_z (<ℤ-≤ℤ k))));
    }

-- it is the angle; that of (0, 0) is 0 by exception
edge_angle : (p q : ℕ) → Edge (pos p) (pos q) (angle p q)
edge_angle p q = go (ℕ_discrete (p + q) 0)
  where
    go : Dec (p + q ≡ 0) → Edge (pos p) (pos q) (angle p q)
    go (yes e) = let none : q ≡ 0 = omega arith in rw (angle_none p q e, none) (edge_zero (pos p) (nonneg_num p))
    go (no e) = rw (angle_some p q e) (edge_greatest p q)

-- the angle of f and g, as the longitude's
pub angle_sector :
    (f g : ℤ) →
    Sector f g (signed (lt_z g (pos 0)) (cond (lt_z f (pos 0)) (half_turn - angle (nat_abs f) (nat_abs g)) (angle (nat_abs f) (nat_abs g))))
angle_sector f g = sector f g (angle (nat_abs f) (nat_abs g)) (edge_angle (nat_abs f) (nat_abs g))

-- the angle of R and z, as the latitude's
pub latitude_sector : (R : ℕ) (z : ℤ) → Sector (pos R) z (signed (lt_z z (pos 0)) (angle R (nat_abs z)))
latitude_sector R z = signed_sector z (quarter_sector (edge_angle R (nat_abs z)))
