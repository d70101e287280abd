-- The coefficients and the sines are small, so every product and sum is within 64 bits and is the one of the paper.
use Rattle.std.proofs.Common.{◌≡◌, ◌≤◌, ap, ◌∙◌}
use lib.IntN.{ℤ, nat_abs, ◌+ℤ◌, ◌-ℤ◌, ◌*ℤ◌}
use Rattle.proof_kit.proofs.Range.{code, fits, read}
use Rattle.units.specs.Units.{unit}
use Rattle.trig.specs.Sine.{sine}
use Rattle.trig.proofs.Interface.{sine_size}
use Rattle.latitudes.proofs.SineSeries.three_terms.Goals as goal

-- a sine that was taken is at most U in size
small : {r : ℤ} (θ : ℤ) → r ≡ sine θ → nat_abs r ≤ unit
small θ e = rw e (sine_size θ)

-- the sum of the terms is that of the three sines
summed : (k2 k4 k6 : ℤ) {x x' y y' z z' : ℤ} → x ≡ x' → y ≡ y' → z ≡ z' → k2 *ℤ x -ℤ k4 *ℤ y +ℤ k6 *ℤ z ≡ k2 *ℤ x' -ℤ k4 *ℤ y' +ℤ k6 *ℤ z'
summed k2 k4 k6 e f g = rw (e, f, g)

pub overflow_mul-result : goal.overflow_mul-result
overflow_mul-result c =
    let two = small _ c.sine-s2.ensures in
    fits (search (code, c.args.self.small.k2_size) depth 40 fits 20000) tt

pub overflow_mul-result-2 : goal.overflow_mul-result-2
overflow_mul-result-2 c =
    let four = small _ c.sine-s4.ensures in
    fits (search (code, c.args.self.small.k4_size) depth 40 fits 20000) tt

pub overflow_sub-result : goal.overflow_sub-result
overflow_sub-result c =
    let k = c.args.self.small in
    let two = small _ c.sine-s2.ensures in
    let four = small _ c.sine-s4.ensures in
    fits (search (code, k.k2_size, k.k4_size) depth 40 fits 20000) tt

pub overflow_mul-result-3 : goal.overflow_mul-result-3
overflow_mul-result-3 c =
    let six = small _ c.sine-s6.ensures in
    fits (search (code, c.args.self.small.k6_size) depth 40 fits 20000) tt

pub overflow_add-result : goal.overflow_add-result
overflow_add-result c =
    let k = c.args.self.small in
    let two = small _ c.sine-s2.ensures in
    let four = small _ c.sine-s4.ensures in
    let six = small _ c.sine-s6.ensures in
    fits (search (code, k.k2_size, k.k4_size, k.k6_size) depth 40 fits 20000) tt

pub returns : goal.returns
returns c =
    let k = c.args.self in
    let two = small _ c.sine-s2.ensures in
    let four = small _ c.sine-s4.ensures in
    let six = small _ c.sine-s6.ensures in
    read (search (code, k.small.k2_size, k.small.k4_size, k.small.k6_size, two, four, six) depth 40 fits 20000) tt
    ∙ summed k.k2 k.k4 k.k6
    (c.sine-s2.ensures ∙ ap sine (read (search (code, c.requires) depth 40 fits 20000) tt))
    (c.sine-s4.ensures ∙ ap sine (read (search (code, c.requires) depth 40 fits 20000) tt))
    (c.sine-s6.ensures ∙ ap sine (read (search (code, c.requires) depth 40 fits 20000) tt))
