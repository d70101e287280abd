-- Twice a radius is within 64 bits, so the limits are read back as they are. Assumes nothing.
use Rattle.std.proofs.Common.{◌≡◌, Bool, ◌&&◌, ℤ, pos, neg_ℤ, nat_abs, ◌≤◌, ◌-ℤ◌, ◌*ℤ◌, ap, ap₂, ◌∙◌}
use mir.Syntax.{w64}
use mir.Val.{SFits}
use mir.Facts.{to_z-of_z}
use Rattle.proof_kit.proofs.Range.{code, read}
use Rattle.units.specs.Spans.{within}
use Rattle.billionths.proofs.Calls.{back}
use Rattle.azimuthal_inverse.specs.Steps.{on_map}
use Rattle.azimuthal_inverse.proofs.is_on_map.Goals as goal

-- twice the radius r, as the code has it
abbrev twice : ℤ → ℤ
twice r = back (pos 2 *ℤ back r)

-- the paper's test of one axis
abbrev on-axis : ℤ → ℤ → Bool
on-axis r z = within (neg_ℤ (pos 2 *ℤ r)) (pos 2 *ℤ r) z

-- the code's, of the numbers as they are read back
abbrev tested : ℤ → ℤ → Bool
tested r z = within (back (pos 0 -ℤ twice r)) (twice r) (back z)

tested-is : (r z : ℤ) → nat_abs r ≤ 1_080_000_000 → SFits w64 z → tested r z ≡ on-axis r z
tested-is r z h f =
    ap₂ (λ (low high : ℤ). within low high (back z)) (read (search (code, h) depth 40 fits 20000) tt) (read (search (code, h) depth 40 fits 20000) tt)
    ∙ ap (on-axis r) (to_z-of_z f)

pub returns : goal.returns
unfolding on_map
returns c =
    let rd : ℤ = c.args.k.rd in
    let rn : ℤ = c.args.k.rn in
    ◌∙◌ {b = tested rd c.args.de && tested rn c.args.dn} c.are_within.ensures
    (ap₂ ◌&&◌ (tested-is rd _ c.requires.0 c.ranges.de) (tested-is rn _ c.requires.1 c.ranges.dn))
