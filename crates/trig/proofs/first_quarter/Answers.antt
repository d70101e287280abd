-- The two cases of the definition. Where r is not 0, θ is below 90°, so minute k + 1 is still in the table.
use Rattle.std.proofs.Common.{◌/◌, ◌%◌, sym, ◌∙◌, arith}
use Rattle.units.specs.Units.{minute}
use Rattle.trig.specs.Sine.{first_quarter}
use Rattle.trig.proofs.Fraction.{on_minute, past_minute, in_minute}
use Rattle.trig.proofs.first_quarter.Goals as goal

pub returns-then-r-eq0 : goal.returns-then-r-eq0
unfolding first_quarter
returns-then-r-eq0 c = c.minute_sine-low.ensures ∙ sym (on_minute _ _ c.if-r-eq0.true)

pub returns : goal.returns
unfolding first_quarter in_minute
returns c =
    rw (past_minute (c.args.theta / minute) (c.args.theta % minute) c.if-r-eq0.false (omega arith) (omega arith), ← c.minute_sine-low.ensures, ← c.rise.ensures)
    c.between.ensures
