-- `wrap` meets its contract: the tests pick the case, and a turn more or less is within 64 bits. No name of a place behind one of the code's
-- tests stands here, since it holds the test's operands: `assumption` finds what the test told. Assumes nothing.
use mathlib.Core.Path.{◌≡◌, sym, ◌∙◌}
use mathlib.Core.Bool.{true, false}
use lib.IntN.{ℤ, pos, neg_ℤ}
use lib.Signed.{le_z, lt_z, ◌≤ℤ◌, ◌<ℤ◌}
use mir.Syntax.{w64}
use mir.Val.{SFits, to_z, of_z}
use mir.Facts.{to_z-of_z}
use Rattle.proof_kit.proofs.Order.{lt_z_true, lt_z_false, le_z_true, le_z_false}
use Rattle.proof_kit.proofs.Range.{code, fits, read}
use Rattle.units.specs.Units.{half_turn}
use Rattle.units.proofs.Spans.{wrapped_low, wrapped_high, wrapped_between}
use Rattle.units.proofs.wrap.Statement.{statement}
use Rattle.units.proofs.wrap.Tie as tie

-- what the two tests tell of a longitude, which they read back
module _ (lon : ℤ) (held : SFits w64 lon) where
  abbrev back : ℤ
  back = to_z w64 (of_z w64 lon)

  low : le_z back (neg_ℤ (pos half_turn)) ≡ true → lon ≤ℤ neg_ℤ (pos half_turn)
  low e = le_z_true lon (neg_ℤ (pos half_turn)) (rw (to_z-of_z held) at e)

  not_low : le_z back (neg_ℤ (pos half_turn)) ≡ false → neg_ℤ (pos half_turn) <ℤ lon
  not_low e = le_z_false lon (neg_ℤ (pos half_turn)) (rw (to_z-of_z held) at e)

  high : lt_z (pos half_turn) back ≡ true → pos half_turn <ℤ lon
  high e = lt_z_true (pos half_turn) lon (rw (to_z-of_z held) at e)

  not_high : lt_z (pos half_turn) back ≡ false → lon ≤ℤ pos half_turn
  not_high e = lt_z_false (pos half_turn) lon (rw (to_z-of_z held) at e)

pub wrap_spec : {M : Type 1} → statement M
wrap_spec =
    tie.close
    (tie.spec
    (λ c. fits (search code depth 40 fits 20000) tt)
    (λ c.
    let s = c.before in
    read (search code depth 40 fits 20000) tt ∙ sym (wrapped_low s.args.lon (low s.args.lon s.ranges.lon assumption)))
    (λ c. fits (search code depth 40 fits 20000) tt)
    (λ c.
    let s = c.before.before in
    read (search code depth 40 fits 20000) tt ∙ sym (wrapped_high s.args.lon (high s.args.lon s.ranges.lon assumption)))
    (λ c.
    let s = c.before.before in
    read (search code depth 40 fits 20000) tt
    ∙ sym (wrapped_between s.args.lon (not_low s.args.lon s.ranges.lon assumption) (not_high s.args.lon s.ranges.lon assumption))))
