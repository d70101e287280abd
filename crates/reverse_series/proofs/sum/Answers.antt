-- β, the coefficients and the sines are small, so every product and sum is within 64 bits and is the one of the series.
use Rattle.std.proofs.Common.{◌≡◌, ◌≤◌, ap, ◌∙◌}
use lib.Dec.{lit<}
use lib.IntN.{ℤ, nat_abs, ◌+ℤ◌, ◌*ℤ◌}
use Rattle.proof_kit.proofs.Range.{code, fits, read, read_room, returned}
use Rattle.proof_kit.proofs.Size.{as_size}
use Rattle.integers.specs.Near.{near}
use Rattle.units.specs.Units.{unit, U}
use Rattle.trig.specs.Sine.{sine}
use Rattle.trig.proofs.Interface.{sine_size}
use Rattle.reverse_series.specs.declared.Coefficients.{Coefficients}
use Rattle.reverse_series.specs.InnerSeries.{series}
use Rattle.reverse_series.proofs.sum.Goals as goal

-- a sine that was taken is at most U in size
small : {r : ℤ} (θ : ℤ) → r ≡ sine θ → nat_abs r ≤ unit
small θ e = rw e (sine_size θ)

pub overflow_mul-k : goal.overflow_mul-k
overflow_mul-k c =
    let two = small _ c.sine-s2.ensures in
    fits (search (code, c.requires.0.two_size) depth 40 fits 20000) tt

pub overflow_add-beta : goal.overflow_add-beta
overflow_add-beta c =
    let two = small _ c.sine-s2.ensures in
    fits (search (code, c.requires.1, c.requires.0.two_size) depth 40 fits 20000) tt

pub overflow_mul-k-2 : goal.overflow_mul-k-2
overflow_mul-k-2 c =
    let four = small _ c.sine-s4.ensures in
    fits (search (code, c.requires.0.four_size) depth 40 fits 20000) tt

pub overflow_add-beta-2 : goal.overflow_add-beta-2
overflow_add-beta-2 c =
    let k = c.requires.0 in
    let two = small _ c.sine-s2.ensures in
    let four = small _ c.sine-s4.ensures in
    fits (search (code, c.requires.1, k.two_size, k.four_size) depth 40 fits 20000) tt

pub overflow_mul-k-3 : goal.overflow_mul-k-3
overflow_mul-k-3 c =
    let six = small _ c.sine-s6.ensures in
    fits (search (code, c.requires.0.six_size) depth 40 fits 20000) tt

pub overflow_add-beta-3 : goal.overflow_add-beta-3
overflow_add-beta-3 c =
    let k = c.requires.0 in
    let two = small _ c.sine-s2.ensures in
    let four = small _ c.sine-s4.ensures in
    let six = small _ c.sine-s6.ensures in
    fits (search (code, c.requires.1, k.two_size, k.four_size, k.six_size) depth 40 fits 20000) tt

pub near-requires : goal.near-requires
near-requires c =
    let k = c.requires.0 in
    let two = small _ c.sine-s2.ensures in
    let four = small _ c.sine-s4.ensures in
    let six = small _ c.sine-s6.ensures in
    (lit< tt, rw as_size (read_room 500_000_000 (search (code, c.requires.1, k.two_size, k.four_size, k.six_size) depth 40 fits 20000) tt))

-- the sines are those of the multiples of β
summed : (k : Coefficients) (β : ℤ) {x x' y y' z z' : ℤ} → x ≡ x' → y ≡ y' → z ≡ z' →
    U *ℤ β +ℤ k.two *ℤ x +ℤ k.four *ℤ y +ℤ k.six *ℤ z ≡ U *ℤ β +ℤ k.two *ℤ x' +ℤ k.four *ℤ y' +ℤ k.six *ℤ z'
summed k β e f g = rw (e, f, g)

multiple : {r θ z : ℤ} → r ≡ sine θ → θ ≡ z → r ≡ sine z
multiple e f = e ∙ ap sine f

pub returns : goal.returns
unfolding series
returns c =
    let k = c.requires.0 in
    let two = small _ c.sine-s2.ensures in
    let four = small _ c.sine-s4.ensures in
    let six = small _ c.sine-s6.ensures in
    returned c.near.type_inv
    ∙ c.near.ensures
    ∙ ap (λ (n : ℤ). near n unit)
    (read (search (code, c.requires.1, k.two_size, k.four_size, k.six_size, two, four, six) depth 40 fits 20000) tt
    ∙ summed c.args.k c.args.beta
    (multiple c.sine-s2.ensures (read (search (code, c.requires.1) depth 40 fits 20000) tt))
    (multiple c.sine-s4.ensures (read (search (code, c.requires.1) depth 40 fits 20000) tt))
    (multiple c.sine-s6.ensures (read (search (code, c.requires.1) depth 40 fits 20000) tt)))
