-- β is φ less the correction, and both are small enough for 64 bits.
use Rattle.std.proofs.Common.{◌≤◌, ap, ◌∙◌}
use lib.IntN.{ℤ, nat_abs, ◌-ℤ◌}
use Rattle.proof_kit.proofs.Range.{code, fits, read}
use Rattle.latitudes.specs.Latitude.{beta}
use Rattle.latitudes.proofs.AuthalicLaws.{rounded_size}
use Rattle.latitudes.proofs.to_authalic.Goals as goal

pub overflow_sub-result : goal.overflow_sub-result
overflow_sub-result c =
    let small : nat_abs c.correction.result ≤ 692_510 = rw c.correction.ensures (rounded_size c.args.k c.requires.0 c.args.lat.0) in
    fits (search (code, c.requires.1, small) depth 40 fits 20000) tt

pub returns : goal.returns
unfolding beta
returns c =
    let small : nat_abs c.correction.result ≤ 692_510 = rw c.correction.ensures (rounded_size c.args.k c.requires.0 c.args.lat.0) in
    ap (λ (x : ℤ). record { 0 = x })
    (read (search (code, c.requires.1, small) depth 40 fits 20000) tt ∙ ap (λ (x : ℤ). c.args.lat.0 -ℤ x) c.correction.ensures)
