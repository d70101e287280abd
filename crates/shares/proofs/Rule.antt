-- The rule of a new slot, by how many slots each loop holds. Assumes nothing.
use mathlib.Core.Path.{◌≡◌, refl}
use mathlib.Core.Bool.{Bool, true, false, ◌||◌}
use mathlib.Core.Logic.{◌⊎◌, inl, inr}
use Prim.Native.Nat.{ℕ, ◌+◌, ◌-◌, ◌≤◌, ◌<◌}
use native.Mathlib.Omega.{arith}
use lib.Dec.{ltb}
use borrow.Author.Tests.{lt-ltb, le-ltb, ltb-true, ltb-false}
use Rattle.integers.proofs.Greatest.{not_both}
use Rattle.shares.specs.Shares.{sure_slots, shared_slots, beyond, granted}

-- one of two tests passes where the second does
pub second_passes : (t : Bool) → (t || true) ≡ true
second_passes true = refl
second_passes false = refl

module _ (held : ℕ → ℕ) where
  pub beyond_is : beyond held ≡ (held 1 - sure_slots) + (held 2 - sure_slots)
  unfolding beyond
  beyond_is = refl

  module _ (loop : ℕ) where
    pub granted_by : granted held loop ≡ true → (held loop < sure_slots) ⊎ (beyond held < shared_slots)
    unfolding granted
    granted_by g = at (ltb (held loop) sure_slots) refl g
      where
        at :
            (t : Bool) →
            ltb (held loop) sure_slots ≡ t →
            (t || ltb (beyond held) shared_slots) ≡ true →
            (held loop < sure_slots) ⊎ (beyond held < shared_slots)
        at true e _ = inl (ltb-true (held loop) sure_slots e)
        at false _ h = inr (ltb-true (beyond held) shared_slots h)

    pub granted_not : granted held loop ≡ false → (sure_slots ≤ held loop) × (shared_slots ≤ beyond held)
    unfolding granted
    granted_not g = at (ltb (held loop) sure_slots) refl g
      where
        at :
            (t : Bool) →
            ltb (held loop) sure_slots ≡ t →
            (t || ltb (beyond held) shared_slots) ≡ false →
            (sure_slots ≤ held loop) × (shared_slots ≤ beyond held)
        at true _ h = absurd (not_both refl h)
        at false e h = (ltb-false (held loop) sure_slots e, ltb-false (beyond held) shared_slots h)

    pub granted_sure : held loop < sure_slots → granted held loop ≡ true
    unfolding granted
    granted_sure h = rw (lt-ltb (held loop) sure_slots h)

    pub granted_refused : sure_slots ≤ held loop → shared_slots ≤ beyond held → granted held loop ≡ false
    unfolding granted
    granted_refused own both = rw (le-ltb (held loop) sure_slots own, le-ltb (beyond held) shared_slots both)

    -- nothing but these three counts decides
    pub granted_same : (other : ℕ → ℕ) → held loop ≡ other loop → held 1 ≡ other 1 → held 2 ≡ other 2 → granted held loop ≡ granted other loop
    unfolding granted beyond
    granted_same other own one two = rw (own, one, two)

    -- the loop gets a slot still where no more is held beyond
    pub granted_fewer : (other : ℕ → ℕ) → held loop ≡ other loop → beyond other ≤ beyond held → granted held loop ≡ true → granted other loop ≡ true
    unfolding granted
    granted_fewer other own fewer g = at (granted_by g)
      where
        at : (held loop < sure_slots) ⊎ (beyond held < shared_slots) → (ltb (other loop) sure_slots || ltb (beyond other) shared_slots) ≡ true
        at (inl h) = rw (lt-ltb (other loop) sure_slots (omega (arith, own)))
        at (inr h) = rw (lt-ltb (beyond other) shared_slots (omega arith)) (second_passes (ltb (other loop) sure_slots))
