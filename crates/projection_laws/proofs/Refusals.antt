-- Which refusals the calls in whole units give: the chains of `forward_refusal` and `inverse_refusal` have no other number. An answer is refused where its
-- number is not 0 and carries that number, so what is told decides the answer.
-- Assumes nothing.
use mathlib.Core.Path.{◌≡◌, refl, sym, ap, ap₂, ◌∙◌}
use mathlib.Core.List.{◌∷◌}
use Prim.Native.Nat.{ℕ, zero, suc}
use native.Mathlib.Omega.{arith}
use lib.IntN.{ℤ}
use Rattle.units.specs.Answers.{Told, accepted, refused, answered}
use Rattle.units.proofs.Chains.{Gives, chain, another}
use Rattle.latitudes.specs.declared.Geodetic.{Geodetic}
use Rattle.parameters.proofs.Fields.{set_gives}
use Rattle.azimuthal_forward.specs.Answer.{Plane, Refused, forward_far, forward_refusal, easting_of, northing_of, forward_of, forward_told}
use Rattle.azimuthal_forward.proofs.AnswerLaws.{forward_tells}
use Rattle.azimuthal_inverse.specs.Answer.{Position, Refused as NotFound, far_from, inverse_far, inverse_refusal, inverse_latitude, inverse_longitude, inverse_of, inverse_told}
use Rattle.azimuthal_inverse.proofs.AnswerLaws.{inverse_tells}
use Rattle.latitudes.specs.Latitude.{latitude}
use Rattle.projection_laws.specs.Theorems.{whole_refusals, ForwardNumbers, InverseNumbers, ForwardRefused, InverseRefused}
use Rattle.projection_laws.specs.Theorems.{ForwardDecided, InverseDecided}

-- ---- the numbers of the chains

pub forward_numbers : ForwardNumbers
unfolding forward_refusal forward_far
forward_numbers p φ lon =
    let number : Gives (0 ∷ whole_refusals) (forward_refusal p φ lon) = search (chain, set_gives p) depth 40 in
    number.one

pub inverse_numbers : InverseNumbers
unfolding inverse_refusal inverse_far far_from
inverse_numbers p E N =
    let number : Gives (0 ∷ whole_refusals) (inverse_refusal p E N) = search (chain, set_gives p) depth 40 in
    number.one

-- ---- the answers

nothing : {n : ℕ} → suc n ≡ 0 → ⊥
nothing e = omega arith

-- an answer that is refused by k has the number k, which is not 0
plane_number : (n : ℕ) (E N : ℤ) (k : ℕ) → answered Refused n (Plane E N) ≡ Refused k → (n ≡ k) × (k ≡ 0 → ⊥)
plane_number zero E N k e = let z : ◌≡◌ {A = ℕ} 1 0 = cc in absurd (nothing z)
plane_number (suc n) E N k e =
    let is : suc n ≡ k = cc in
    (is, λ z. nothing (is ∙ z))

geodetic_number : (n : ℕ) (φ : Geodetic) (lon : ℤ) (k : ℕ) → answered NotFound n (Position φ lon) ≡ NotFound k → (n ≡ k) × (k ≡ 0 → ⊥)
geodetic_number zero φ lon k e = let z : ◌≡◌ {A = ℕ} 1 0 = cc in absurd (nothing z)
geodetic_number (suc n) φ lon k e =
    let is : suc n ≡ k = cc in
    (is, λ z. nothing (is ∙ z))

pub forward_refused : ForwardRefused
unfolding forward_of
forward_refused p φ lon n e =
    another whole_refusals (forward_refusal p φ lon) n (forward_numbers p φ lon)
    (plane_number (forward_refusal p φ lon) (easting_of p φ lon) (northing_of p φ lon) n e)

pub inverse_refused : InverseRefused
unfolding inverse_of
inverse_refused p E N n e =
    another whole_refusals (inverse_refusal p E N) n (inverse_numbers p E N)
    (geodetic_number (inverse_refusal p E N) (inverse_latitude p E N) (inverse_longitude p E N) n e)

-- ---- what is told decides the answer

-- where two values are told, the number is 0 and the values are these
told_values : (n : ℕ) (a b a' b' : ℤ) → answered refused n (accepted a b) ≡ accepted a' b' → (n ≡ 0) × (a ≡ a') × (b ≡ b')
told_values zero a b a' b' e = (refl, ap (λ (t : Told). t.first) e, ap (λ (t : Told). t.second) e)
told_values (suc n) a b a' b' e = absurd (nothing (ap (λ (t : Told). t.refusal) e))

pub forward_decided : ForwardDecided
unfolding forward_of forward_told
forward_decided p φ lon E N e =
    let is = told_values (forward_refusal p φ lon) (easting_of p φ lon) (northing_of p φ lon) E N (sym (forward_tells p φ lon) ∙ e) in
    rw (is.0, is.1, is.2)

pub inverse_decided : InverseDecided
unfolding inverse_of inverse_told
inverse_decided p E N lat lon e =
    let is = told_values (inverse_refusal p E N) (inverse_latitude p E N).0 (inverse_longitude p E N) lat lon (sym (inverse_tells p E N) ∙ e) in
    rw is.0 (ap₂ (λ (x y : ℤ). Position (latitude x) y) is.1 is.2)
