-- An accepted forward answer: its refusal number is 0, so every test of the chain was passed, and its values are the easting and the northing of the steps.
-- Assumes nothing.
use mathlib.Core.Path.{◌≡◌, refl}
use mathlib.Core.Bool.{true}
use Prim.Native.Nat.{ℕ, zero, suc}
use lib.IntN.{ℤ}
use Rattle.units.specs.Refusals.{unless}
use Rattle.units.specs.Answers.{answered}
use Rattle.units.proofs.Chains.{link_passed, both_passed}
use Rattle.latitudes.specs.declared.Geodetic.{Geodetic}
use Rattle.parameters.specs.declared.Parameters.{Parameters}
use Rattle.parameters.specs.ParameterSet.{set_refusal}
use Rattle.azimuthal_forward.specs.Answer.{Plane, Refused, on_globe, nearness, forward_far, forward_refusal, easting_of, northing_of, forward_of}
use Rattle.azimuthal_forward.specs.Steps.{near_enough}

-- an answer with two values has the number 0, and they are its values
pub plane_parts : (n : ℕ) (E N E' N' : ℤ) → answered Refused n (Plane E N) ≡ Plane E' N' → (n ≡ 0) × (E ≡ E') × (N ≡ N')
plane_parts zero E N E' N' e = (refl, (cc), (cc))
plane_parts (suc n) E N E' N' e = cc

pub record AcceptedAnswer (p : Parameters) (φ : Geodetic) (lon E N : ℤ) : Type 0 where
  pub set_accepted : set_refusal p ≡ 0
  pub globe : on_globe φ lon ≡ true
  pub enough : near_enough (nearness p φ lon) ≡ true
  pub easting : easting_of p φ lon ≡ E
  pub northing : northing_of p φ lon ≡ N

pub accepted_answer : (p : Parameters) (φ : Geodetic) (lon E N : ℤ) → forward_of p φ lon ≡ Plane E N → AcceptedAnswer p φ lon E N
unfolding forward_of forward_refusal forward_far
accepted_answer p φ lon E N e =
    let parts = plane_parts (forward_refusal p φ lon) (easting_of p φ lon) (northing_of p φ lon) E N e in
    let chains = both_passed (set_refusal p) (unless (on_globe φ lon) 3 (forward_far p φ lon)) parts.0 in
    let globe = link_passed (on_globe φ lon) 2 chains.1 in
    record {
      set_accepted = chains.0;
      globe = globe.0;
      enough = (link_passed (near_enough (nearness p φ lon)) 3 globe.1).0;
      easting = parts.1;
      northing = parts.2;
    }
