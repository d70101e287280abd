-- `coordinate` meets its contract: the product is within 64 bits, and so is its quotient. Assumes nothing.
use mathlib.Core.Path.{◌≡◌, ap, ◌∙◌}
use Prim.Native.Nat.{ℕ, ◌+◌, ◌/◌, ◌≤◌, ◌<◌, ◌^◌}
use native.Mathlib.Omega.{arith}
use lib.IntN.{ℤ, nat_abs, ◌+ℤ◌, ◌*ℤ◌}
use Rattle.proof_kit.proofs.Range.{code, fits, read, read_size}
use Rattle.proof_kit.proofs.Size.{as_size, abs_mul_le}
use Rattle.integers.specs.Near.{near}
use Rattle.integers.proofs.Rounding.{near_size, nearest_le}
use Rattle.azimuthal_forward.proofs.coordinate.Statement.{statement}
use Rattle.azimuthal_forward.proofs.coordinate.Tie as tie

mul-near : tie.Need-overflow_mul-r
mul-near c = fits (search (code, c.requires.1, c.requires.2) depth 40 fits 20000) tt

-- half the divisor more is still within 63 bits
room : {n h : ℕ} → n ≤ 2_160_000_000_000_000_000 → h ≤ 1_500_000_000 → n + h / 2 < 2 ^ 63
room a b = omega arith

near-requires : tie.Need-near-requires
near-requires c κs =
    (omega (arith, c.requires.3), rw as_size (room (read_size (search (code, c.requires.1, c.requires.2) depth 40 fits 20000) tt) c.requires.4))

-- the quotient that the call gives
quotient_is : (c : tie.After-near) → c.near.result ≡ near (c.before.args.r *ℤ c.before.args.x) c.before.args.h
quotient_is c =
    c.near.ensures
    ∙ ap (λ (n : ℤ). near n c.before.args.h) (read (search (code, c.before.requires.1, c.before.requires.2) depth 40 fits 20000) tt)

quotient-size : (r x : ℤ) (h : ℕ) → nat_abs r ≤ 1_080_000_000 → nat_abs x ≤ 2_000_000_000 → 100_000_000 ≤ h → h ≤ 1_500_000_000 →
    nat_abs (near (r *ℤ x) h) ≤ 2_170_000_000_000_000_000
quotient-size r x h hr hx low high =
    rw (near_size (r *ℤ x) h) (omega (arith, nearest_le (nat_abs (r *ℤ x)) h (omega arith), abs_mul_le r x hr hx))

result-size : (c : tie.After-near) → nat_abs c.near.result ≤ 2_170_000_000_000_000_000
result-size c =
    let start = c.before in
    rw (quotient_is c) (quotient-size start.args.r start.args.x start.args.h start.requires.1 start.requires.2 start.requires.3 start.requires.4)

add-result : tie.Need-overflow_add-result
add-result c = fits (search (code, c.before.requires.0, result-size c) depth 40 fits 20000) tt

returns : tie.Need-returns
returns c =
    read (search (code, c.before.requires.0, result-size c) depth 40 fits 20000) tt
    ∙ ap (λ (n : ℤ). c.before.args.origin +ℤ n) (quotient_is c)

pub coordinate_spec : {M : Type 1} → statement M
coordinate_spec = tie.close (tie.spec mul-near near-requires add-result returns)
