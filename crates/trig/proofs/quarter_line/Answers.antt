-- 90° is a whole minute.
use Rattle.std.proofs.Common.{◌≡◌, arith}
use Rattle.units.specs.Units.{right_angle}
use Rattle.trig.specs.Sine.{first_quarter}
use Rattle.trig.proofs.Quarter.{quarter_minute}
use Rattle.trig.proofs.quarter_line.Goals as goal

pub returns-then-k-eq-QUARTER_MINUTES : goal.returns-then-k-eq-QUARTER_MINUTES
returns-then-k-eq-QUARTER_MINUTES c =
    let top : c.args.theta ≡ right_angle = omega arith in
    let last : c.minute_sine-low.result ≡ first_quarter c.args.theta = rw (top, quarter_minute 5400) (rw top at c.minute_sine-low.ensures) in
    (omega arith, omega arith)
