-- The gap of two longitudes is the smallest size that their difference plus a whole number of turns can have: no number of turns gives less, and one gives it.
-- Assumes nothing.
use mathlib.Core.Path.{◌≡◌, sym, ap, ◌∙◌}
use mathlib.Core.List.{[], ◌∷◌}
use Prim.Native.Nat.{ℕ, suc, ◌-◌, ◌*◌, ◌/◌, ◌%◌, ◌<◌, ◌≤◌, min}
use native.Mathlib.Decide.{dec_le}
use native.Mathlib.Nat.{div-add-mod', mod-lt}
use native.Mathlib.Omega.{arith}
use lib.Dec.{lit<}
use lib.IntN.{ℤ, pos, negsuc, neg_ℤ, nat_abs, ◌+ℤ◌, ◌-ℤ◌, ◌*ℤ◌, neg_ℤ-neg_ℤ}
use Rattle.proof_kit.proofs.Laws.{nat_abs_parts, one_part, parts--}
use Rattle.proof_kit.proofs.Ring.{ring, quote}
use Rattle.proof_kit.proofs.Size.{abs_neg}
use Rattle.units.specs.Units.{full_turn}
use Rattle.round_trip.specs.RoundTrip.{turn_gap}
use Rattle.round_trip.specs.Theorems.{GapLeast, GapAttained}

-- a number of turns that leaves the gap
abbrev Attained : ℤ → Type 0
Attained d = (turns : ℤ) × (turn_gap d ≡ nat_abs (d +ℤ turns *ℤ pos full_turn))

-- ---- a remainder r of the turn

-- by no number of turns is it brought nearer to 0 than it is to 0 or to a whole turn
rest_least : (r : ℕ) (k : ℤ) → r < full_turn → min r (full_turn - r) ≤ nat_abs (pos r +ℤ k *ℤ pos full_turn)
rest_least r (pos n) h = omega arith
rest_least r (negsuc n) h =
    let z : ℤ = pos r -ℤ pos (suc n * full_turn) in
    omega (arith, nat_abs_parts z, parts-- (pos r) (pos (suc n * full_turn)))

-- ---- a difference that is not negative

-- its turns taken out
rest : (a : ℕ) (j : ℤ) → pos a +ℤ j *ℤ pos full_turn ≡ pos (a % full_turn) +ℤ (pos (a / full_turn) +ℤ j) *ℤ pos full_turn
rest a j =
    ap (λ (n : ℕ). pos n +ℤ j *ℤ pos full_turn) (sym (div-add-mod' a full_turn)) ∙ moved (pos (a / full_turn)) (pos (a % full_turn)) j
  where
    moved : (q r j : ℤ) → q *ℤ pos full_turn +ℤ r +ℤ j *ℤ pos full_turn ≡ r +ℤ (q +ℤ j) *ℤ pos full_turn
    moved q r j = ring (q ∷ r ∷ j ∷ []) (search quote depth 40 fits 20000) tt

-- what is left is less than a turn
rest_below : (a : ℕ) → a % full_turn < full_turn
rest_below a = mod-lt a (lit< tt)

-- no number of turns brings it nearer to 0 than the gap
natural_least : (a : ℕ) (j : ℤ) → turn_gap (pos a) ≤ nat_abs (pos a +ℤ j *ℤ pos full_turn)
unfolding turn_gap
natural_least a j = rw (rest a j) (omega (arith, rest_least (a % full_turn) (pos (a / full_turn) +ℤ j) (rest_below a)))

-- without its turns it is r, and with one more turn back r less a turn: one of the two is the smallest
natural_attained : (a : ℕ) → Attained (pos a)
unfolding turn_gap
natural_attained a = at (dec_le (a % full_turn) (full_turn - a % full_turn))
  where
    none_left : (q r : ℤ) → r +ℤ (q +ℤ neg_ℤ q) *ℤ pos full_turn ≡ r
    none_left q r = ring (q ∷ r ∷ []) (search quote depth 40 fits 20000) tt

    one_back : (q r : ℤ) → r +ℤ (q +ℤ (neg_ℤ q -ℤ pos 1)) *ℤ pos full_turn ≡ r -ℤ pos full_turn
    one_back q r = ring (q ∷ r ∷ []) (search quote depth 40 fits 20000) tt

    at : Dec (a % full_turn ≤ full_turn - a % full_turn) → Attained (pos a)
    at (yes h) =
        let turns : ℤ = neg_ℤ (pos (a / full_turn)) in
        (turns, rw (rest a turns, none_left (pos (a / full_turn)) (pos (a % full_turn))) (omega arith))
    at (no h) =
        let turns : ℤ = neg_ℤ (pos (a / full_turn)) -ℤ pos 1 in
        let r : ℤ = pos (a % full_turn) in (
          turns,
          rw (rest a turns, one_back (pos (a / full_turn)) r)
              (omega (arith, rest_below a, nat_abs_parts (r -ℤ pos full_turn), parts-- r (pos full_turn), one_part (r -ℤ pos full_turn))),
        )

-- ---- every difference

-- the opposite of a difference is as far from 0, by the opposite number of turns
opposite : (x j : ℤ) → nat_abs (neg_ℤ x +ℤ j *ℤ pos full_turn) ≡ nat_abs (x +ℤ neg_ℤ j *ℤ pos full_turn)
opposite x j = ap nat_abs (turned x j) ∙ abs_neg (x +ℤ neg_ℤ j *ℤ pos full_turn)
  where
    turned : (x j : ℤ) → neg_ℤ x +ℤ j *ℤ pos full_turn ≡ neg_ℤ (x +ℤ neg_ℤ j *ℤ pos full_turn)
    turned x j = ring (x ∷ j ∷ []) (search quote depth 40 fits 20000) tt

-- the gap is at most the size by any number of turns
pub gap_least : GapLeast
unfolding turn_gap
gap_least (pos a) j = natural_least a j
gap_least (negsuc n) j = rw (opposite (pos (suc n)) j) (natural_least (suc n) (neg_ℤ j))

-- and it is the size by some number of turns
pub gap_attained : GapAttained
unfolding turn_gap
gap_attained (pos a) = natural_attained a
gap_attained (negsuc n) =
    let at = natural_attained (suc n) in
    let back : ℤ = neg_ℤ at.0 in
    (back, at.1 ∙ sym (opposite (pos (suc n)) back ∙ ap (λ (j : ℤ). nat_abs (pos (suc n) +ℤ j *ℤ pos full_turn)) (neg_ℤ-neg_ℤ at.0)))
