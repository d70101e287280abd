-- Sine and cosine are the same rule in two minutes that lie alike on both sides of 45°, and 60,000 − r taken from 60,000 is r, so that their
-- products are one.
use Rattle.std.proofs.Common.{ℕ, ◌≡◌, ◌+◌, ◌-◌, ◌*◌, ◌/◌, ◌<◌, ◌≤◌, refl, sym, arith}
use Rattle.units.specs.Units.{minute}
use Rattle.sine_table.specs.Table.{entry}
use Rattle.trig.specs.Sine.{quarter_minutes, first_quarter}
use Rattle.trig.specs.InnerCorrection.{whole_correction, rise_of}
use Rattle.trig.proofs.Fraction.{in_minute, quarter_in_minute}
use Rattle.trig.proofs.quarter_pair.Goals as goal

-- what a call of `between` for minute k, r and the product of r with what is left of the minute gives
gives : (k r low rise product θ : ℕ) → k < 5400 → r ≤ minute → low ≡ entry k → rise ≡ rise_of k → product ≡ r * (minute - r) →
    k * minute + r ≡ θ → low + (rise * r + 30_000 + whole_correction low product) / minute ≡ first_quarter θ
unfolding in_minute
gives k r low rise product θ below early l g p e = rw (l, g, p, ← e) (sym (quarter_in_minute k r below early))

turned : (r : ℕ) → r ≤ minute → r * (minute - r) ≡ (minute - r) * (minute - (minute - r))
turned r h =
    let back : minute - (minute - r) ≡ r = omega arith in
    rw back (omega arith)

pub returns : goal.returns
returns c =
    let k = c.args.k in
    let r = c.args.r in (
      rw c.between.ensures (gives k r _ _ _ _ (omega arith) (omega arith) c.minute_sine.ensures c.rise.ensures refl refl),
      rw c.between-2.ensures (gives (quarter_minutes - 1 - k) (minute - r) _ _ _ _ (omega arith) (omega arith) c.minute_sine-2.ensures c.rise-2.ensures (turned r (omega arith)) (omega arith)),
    )
