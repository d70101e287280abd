-- The steps of a list: how many there are, and which stands at a place. Assumes nothing.
use Rattle.std.proofs.Common.{◌≡◌, ℕ, zero, suc, ◌+◌, ◌<◌, length, get_or, pos, sym, refl, ap, ◌∙◌, le_of_suc-le-suc, not-suc-le-zero, arith}
use lib.Ieee.{Float, binary64, mul, of_int}
use Rattle.point_vectors.specs.InnerLists.{steps_from}

-- k steps
abbrev pub times : ℕ → Float → Float
times k step = mul binary64 (of_int binary64 (pos k)) step

pub steps_length : (start n : ℕ) (step : Float) → length (steps_from start n step) ≡ n
unfolding steps_from
steps_length start zero step = refl
steps_length start (suc n) step = ap suc (steps_length (suc start) n step)

steps_at : (start n i : ℕ) (step d : Float) → i < n → get_or (steps_from start n step) i d ≡ times (start + i) step
unfolding steps_from
steps_at start zero i step d l = absurd (not-suc-le-zero l)
steps_at start (suc n) zero step d l = let e : start ≡ start + 0 = omega arith in ap (λ (k : ℕ). times k step) e
steps_at start (suc n) (suc i) step d l =
    let e : suc start + i ≡ start + suc i = omega arith in
    steps_at (suc start) n i step d (le_of_suc-le-suc l) ∙ ap (λ (k : ℕ). times k step) e

-- from 0 on
pub step_at : (n i : ℕ) (step d : Float) → i < n → times i step ≡ get_or (steps_from 0 n step) i d
step_at n i step d l = let e : i ≡ 0 + i = omega arith in ap (λ (k : ℕ). times k step) e ∙ sym (steps_at 0 n i step d l)
