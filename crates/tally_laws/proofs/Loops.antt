-- The two loops, and how many slots each holds. Where one loop alone changes, so does the sum of both; and what they hold beyond 96 stays within 64,
-- for a loop gets one more only by the rule. Where the rule gives one, the two hold fewer than 256. Assumes nothing.
use mathlib.Core.Path.{◌≡◌, refl}
use mathlib.Core.Bool.{Bool, true, false}
use mathlib.Core.Logic.{◌⊎◌, inl, inr}
use Prim.Native.Nat.{ℕ, suc, ◌+◌, ◌≤◌, ◌<◌}
use native.Mathlib.Omega.{arith}
use lib.Dec.{eqb}
use borrow.Author.Tests.{eqb-true}
use Rattle.slots.specs.Slots.{slot_count}
use Rattle.shares.specs.Shares.{sure_slots, shared_slots, beyond, granted}
use Rattle.shares.proofs.Rule.{beyond_is, granted_by}
use Rattle.tallies.specs.Tallies.{is_loop}

pub one_or_two : (loop : ℕ) → is_loop loop ≡ true → (loop ≡ 1) ⊎ (loop ≡ 2)
unfolding is_loop
one_or_two loop e = at (eqb loop 1) refl e
  where
    at : (t : Bool) → eqb loop 1 ≡ t → is_loop loop ≡ true → (loop ≡ 1) ⊎ (loop ≡ 2)
    at true f _ = inl (eqb-true loop 1 f)
    at false f h = inr (eqb-true loop 2 (rw f at h))

pub loop_some : {loop : ℕ} → is_loop loop ≡ true → loop ≡ 0 → ⊥
loop_some {loop} e z = at (one_or_two loop e)
  where
    at : (loop ≡ 1) ⊎ (loop ≡ 2) → ⊥
    at (inl h) = omega arith
    at (inr h) = omega arith

-- where the rule gives a slot, there is room for it
pub granted_room : (held : ℕ → ℕ) (loop : ℕ) → is_loop loop ≡ true → beyond held ≤ shared_slots → granted held loop ≡ true → held 1 + held 2 < slot_count
granted_room held loop ok fit g = at (granted_by held loop g) (one_or_two loop ok)
  where
    at : (held loop < sure_slots) ⊎ (beyond held < shared_slots) → (loop ≡ 1) ⊎ (loop ≡ 2) → held 1 + held 2 < slot_count
    at (inl h) (inl e) = omega (arith, fit, beyond_is held, rw e at h)
    at (inl h) (inr e) = omega (arith, fit, beyond_is held, rw e at h)
    at (inr h) _ = omega (arith, beyond_is held)

-- one loop holds another number of slots, and the other loop as many as before
module _ (old new : ℕ → ℕ) (loop : ℕ) (ok : is_loop loop ≡ true) (others : (other : ℕ) → eqb loop other ≡ false → new other ≡ old other) where
  pub both_changed : (more less : ℕ) → new loop + less ≡ old loop + more → (new 1 + new 2) + less ≡ (old 1 + old 2) + more
  both_changed more less h = at (one_or_two loop ok)
    where
      at : (loop ≡ 1) ⊎ (loop ≡ 2) → (new 1 + new 2) + less ≡ (old 1 + old 2) + more
      at (inl e) = omega (arith, rw e at h, others 2 (rw e))
      at (inr e) = omega (arith, rw e at h, others 1 (rw e))

  pub within_rule :
      beyond old ≤ shared_slots →
      (new loop ≤ old loop) ⊎ ((new loop ≤ suc (old loop)) × (granted old loop ≡ true)) →
      beyond new ≤ shared_slots
  within_rule fit (inl h) = at (one_or_two loop ok)
    where
      at : (loop ≡ 1) ⊎ (loop ≡ 2) → beyond new ≤ shared_slots
      at (inl e) = omega (arith, fit, beyond_is old, beyond_is new, rw e at h, others 2 (rw e))
      at (inr e) = omega (arith, fit, beyond_is old, beyond_is new, rw e at h, others 1 (rw e))
  within_rule fit (inr h) = at (granted_by old loop h.1) (one_or_two loop ok)
    where
      at : (old loop < sure_slots) ⊎ (beyond old < shared_slots) → (loop ≡ 1) ⊎ (loop ≡ 2) → beyond new ≤ shared_slots
      at (inl s) (inl e) = omega (arith, fit, beyond_is old, beyond_is new, rw e at h.0, rw e at s, others 2 (rw e))
      at (inl s) (inr e) = omega (arith, fit, beyond_is old, beyond_is new, rw e at h.0, rw e at s, others 1 (rw e))
      at (inr s) (inl e) = omega (arith, beyond_is old, beyond_is new, rw e at h.0, others 2 (rw e))
      at (inr s) (inr e) = omega (arith, beyond_is old, beyond_is new, rw e at h.0, others 1 (rw e))
