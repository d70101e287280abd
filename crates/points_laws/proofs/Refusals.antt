-- Which refusals the calls on doubles give: their chains of tests have no other number, and a list call whose set is accepted asks of its points only the
-- rest of the chain. An answer is refused where its number is not 0 and carries that number; so it is refused 4 exactly where the last link of the
-- chain is, and what is told decides the answer. Assumes nothing.
use mathlib.Core.Path.{◌≡◌, refl, sym, ap, ap₂, ◌∙◌}
use mathlib.Core.Bool.{Bool, true, false, cond}
use mathlib.Core.List.{◌∷◌}
use mathlib.Core.Logic.Iff
use mathlib.Core.Logic.{◌⊎◌, inl, inr, ⊎_elim, ◌↔◌}
use Prim.Native.Nat.{ℕ, zero, suc}
use lib.IntN.{ℤ, pos, ◌-ℤ◌}
use lib.Signed.{◌<ℤ◌}
use lib.Ieee.{Float}
use Rattle.proof_kit.proofs.Order.{le_z_false, lt_le_z}
use Rattle.units.specs.Refusals.{too_far, unless, OneOf}
use Rattle.units.specs.Answers.{answered}
use Rattle.units.proofs.Chains.{Gives, chain, another}
use Rattle.parameters.specs.declared.Parameters.{Parameters}
use Rattle.parameters.specs.ParameterSet.{set_refusal}
use Rattle.parameters.proofs.Fields.{set_gives}
use Rattle.constants.specs.Derived.{constants_of}
use Rattle.azimuthal_forward.specs.Steps.{near_enough}
use Rattle.azimuthal_forward.specs.Answer.{nearness, forward_far}
use Rattle.azimuthal_inverse.specs.Steps.{at_origin, on_map, K}
use Rattle.sphere_points.specs.Sphere.{G}
use Rattle.azimuthal_inverse.specs.Answer.{far_from, inverse_far}
use Rattle.pairs.specs.declared.GeodeticPair.{GeodeticPair}
use Rattle.pairs.specs.declared.PlanePair.{PlanePair}
use Rattle.pairs.specs.PlanePairAnswer.{Metres, Refused as PlaneRefused}
use Rattle.pairs.specs.GeodeticPairAnswer.{Degrees, Refused as NotFound}
use Rattle.pairs.specs.Pairs.{degrees, metres, latitude_mas, longitude_mas, easting_cm, northing_cm}
use Rattle.points.specs.Points.{pair_refusal}
use Rattle.points.specs.Points.{forward_pair_refusal, forward_pair, forward_degrees, forward_row, inverse_pair_refusal, inverse_pair, inverse_metres, inverse_row}
use Rattle.points.proofs.AnswerLaws.{forward_tells, inverse_tells}
use Rattle.point_lists.specs.Lists.{Refused}
use Rattle.row_lists.specs.Rows.{zeros}
use Rattle.row_lists.specs.InnerRows.{row_of}
use Rattle.point_lists.specs.Lists.{length_refusal, list_refusal, list_answer}
use Rattle.points_laws.specs.RefusalTheorems.{point_refusals, pair_refusals, list_refusals, ForwardNumbers, InverseNumbers, ForwardRefused, InverseRefused}
use Rattle.points_laws.specs.RefusalTheorems.{MarkedAt, MarkNumbers, ListNumbers, ListRefusedNumbers, ForwardFarExactly, InverseFarExactly}
use Rattle.points_laws.specs.RefusalTheorems.{ForwardDecided, InverseDecided}
use Rattle.points_laws.proofs.Rows.{nothing, row_mark, row_values}
use Rattle.points_laws.proofs.Listed.{at_each_index}

-- ---- the numbers of the chains

pub forward_numbers : ForwardNumbers
unfolding forward_pair_refusal pair_refusal forward_far
forward_numbers p at =
    let number : Gives (0 ∷ pair_refusals) (forward_pair_refusal p at) = search (chain, set_gives p) depth 40 in
    number.one

pub inverse_numbers : InverseNumbers
unfolding inverse_pair_refusal pair_refusal inverse_far far_from
inverse_numbers p at =
    let number : Gives (0 ∷ pair_refusals) (inverse_pair_refusal p at) = search (chain, set_gives p) depth 40 in
    number.one

pub list_numbers : ListNumbers
unfolding list_refusal length_refusal
list_numbers p xs ys first second mark =
    let number : Gives (0 ∷ list_refusals) (list_refusal p xs ys first second mark) = search (chain, set_gives p) depth 40 in
    number.one

-- with an accepted set, of the rest of the chain
forward_point : (p : Parameters) → set_refusal p ≡ 0 → (at : GeodeticPair) → Gives (0 ∷ point_refusals) (forward_pair_refusal p at)
unfolding forward_pair_refusal pair_refusal forward_far
forward_point p set at = rw set (search chain depth 40)

inverse_point : (p : Parameters) → set_refusal p ≡ 0 → (at : PlanePair) → Gives (0 ∷ point_refusals) (inverse_pair_refusal p at)
unfolding inverse_pair_refusal pair_refusal inverse_far far_from
inverse_point p set at = rw set (search chain depth 40)

mark_number : (forward : Bool) (p : Parameters) → set_refusal p ≡ 0 → (x y : Float) → OneOf (0 ∷ point_refusals) (row_of forward p x y).mark
unfolding forward_row inverse_row
mark_number true p set x y = rw row_mark (forward_point p set (degrees x y)).one
mark_number false p set x y = rw row_mark (inverse_point p set (metres x y)).one

pub mark_numbers : MarkNumbers
mark_numbers forward = at_each_index (row_of forward) MarkedAt (mark_number forward)

-- ---- the answers that are refused

-- an answer that is refused by k has the number k, which is not 0
plane_number : (n : ℕ) (pair : PlanePair) (k : ℕ) → answered PlaneRefused n (Metres pair) ≡ PlaneRefused k → (n ≡ k) × (k ≡ 0 → ⊥)
plane_number zero pair k e = let z : ◌≡◌ {A = ℕ} 1 0 = cc in nothing z
plane_number (suc n) pair k e = let is : suc n ≡ k = cc in (is, λ z. nothing (is ∙ z))

geodetic_number : (n : ℕ) (pair : GeodeticPair) (k : ℕ) → answered NotFound n (Degrees pair) ≡ NotFound k → (n ≡ k) × (k ≡ 0 → ⊥)
geodetic_number zero pair k e = let z : ◌≡◌ {A = ℕ} 1 0 = cc in nothing z
geodetic_number (suc n) pair k e = let is : suc n ≡ k = cc in (is, λ z. nothing (is ∙ z))

list_number : (n count k : ℕ) → list_answer n count ≡ Refused k → (n ≡ k) × (k ≡ 0 → ⊥)
list_number zero count k e = let z : ◌≡◌ {A = ℕ} 1 0 = cc in nothing z
list_number (suc n) count k e = let is : suc n ≡ k = cc in (is, λ z. nothing (is ∙ z))

pub forward_refused : ForwardRefused
unfolding forward_degrees
forward_refused p at n e =
    another pair_refusals (forward_pair_refusal p at) n (forward_numbers p at) (plane_number (forward_pair_refusal p at) (forward_pair p at) n e)

pub inverse_refused : InverseRefused
unfolding inverse_metres
inverse_refused p at n e =
    another pair_refusals (inverse_pair_refusal p at) n (inverse_numbers p at) (geodetic_number (inverse_pair_refusal p at) (inverse_pair p at) n e)

pub list_refused_numbers : ListRefusedNumbers
list_refused_numbers p row xs ys first first' second second' mark mark' answer n call e =
    another list_refusals (list_refusal p xs ys first second mark) n (list_numbers p xs ys first second mark)
    (list_number (list_refusal p xs ys first second mark) (zeros mark') n (sym call.answer_is ∙ e))

-- ---- 4 exactly where it is due

-- a test of nearness that fails, as an inequality
not_near : (g : ℤ) → (near_enough g ≡ false) ↔ (g <ℤ pos 20_000_000)
unfolding near_enough
not_near g = (le_z_false (pos 20_000_000) g, lt_le_z)

or_not_near : (A : Type 0) (g : ℤ) → (A ⊎ (near_enough g ≡ false)) ↔ (A ⊎ (g <ℤ pos 20_000_000))
or_not_near A g = (⊎_elim inl (λ h. inr ((not_near g).0 h)), ⊎_elim inl (λ h. inr ((not_near g).1 h)))

-- the last link of the chain
link_fails : (t : Bool) → (unless t too_far 0 ≡ too_far) ↔ (t ≡ false)
link_fails true = (λ e. nothing (sym e), λ e. ap (λ (t : Bool). unless t too_far 0) e)
link_fails false = (λ e. refl, λ e. refl)

-- the three tests of the inverse steps
steps_fail : (origin map near : Bool) →
    (cond origin 0 (unless map too_far (unless near too_far 0)) ≡ too_far) ↔ ((origin ≡ false) × ((map ≡ false) ⊎ (near ≡ false)))
steps_fail true map near = (λ e. nothing (sym e), λ e. ap (λ (t : Bool). cond t 0 too_far) e.0)
steps_fail false false near = (λ e. (refl, inl refl), λ e. refl)
steps_fail false true false = (λ e. (refl, inr refl), λ e. refl)
steps_fail false true true = (λ e. nothing (sym e), λ e. none e.1)
  where
    none : (true ≡ false) ⊎ (true ≡ false) → ◌≡◌ {A = ℕ} 0 too_far
    none (inl e) = ap (λ (t : Bool). unless t too_far 0) e
    none (inr e) = ap (λ (t : Bool). unless t too_far 0) e

-- an answer is refused 4 exactly where its number is 4
plane_four : (n : ℕ) (pair : PlanePair) → (answered PlaneRefused n (Metres pair) ≡ PlaneRefused too_far) ↔ (n ≡ too_far)
plane_four n pair = (λ e. (plane_number n pair too_far e).0, λ e. ap (λ (k : ℕ). answered PlaneRefused k (Metres pair)) e)

geodetic_four : (n : ℕ) (pair : GeodeticPair) → (answered NotFound n (Degrees pair) ≡ NotFound too_far) ↔ (n ≡ too_far)
geodetic_four n pair = (λ e. (geodetic_number n pair too_far e).0, λ e. ap (λ (k : ℕ). answered NotFound k (Degrees pair)) e)

pub forward_far_exactly : ForwardFarExactly
unfolding forward_degrees forward_pair_refusal pair_refusal forward_far
forward_far_exactly p at set finite inside =
    let g = nearness p (latitude_mas at) (longitude_mas at) in
    rw (set, finite, inside)
    (Iff.trans (plane_four (unless (near_enough g) too_far 0) (forward_pair p at)) (Iff.trans (link_fails (near_enough g)) (not_near g)))

pub inverse_far_exactly : InverseFarExactly
unfolding inverse_metres inverse_pair_refusal pair_refusal inverse_far far_from
inverse_far_exactly p at set finite inside =
    let k = constants_of p in
    let dE = easting_cm at -ℤ p.false_easting in
    let dN = northing_cm at -ℤ p.false_northing in
    let g = G (K k dE dN) in
    rw (set, finite, inside)
    (Iff.trans (geodetic_four _ (inverse_pair p at))
    (Iff.trans (steps_fail (at_origin dE dN) (on_map k dE dN) (near_enough g)) (Iff.and Iff.rfl (or_not_near (on_map k dE dN ≡ false) g))))

-- ---- what is told decides the answer

pub forward_decided : ForwardDecided
unfolding forward_degrees forward_row
forward_decided p at first second e =
    let pair = forward_pair p at in
    let is = row_values (forward_pair_refusal p at) pair.first pair.second first second (sym (forward_tells p at) ∙ e) in
    rw is.0 (ap₂ (λ (x y : Float). Metres (metres x y)) is.1 is.2)

pub inverse_decided : InverseDecided
unfolding inverse_metres inverse_row
inverse_decided p at first second e =
    let pair = inverse_pair p at in
    let is = row_values (inverse_pair_refusal p at) pair.latitude pair.longitude first second (sym (inverse_tells p at) ∙ e) in
    rw is.0 (ap₂ (λ (x y : Float). Degrees (degrees x y)) is.1 is.2)
