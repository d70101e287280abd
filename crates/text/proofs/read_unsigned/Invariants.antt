-- The invariant of the loop of `text::read_unsigned`: the value goes on to that of all digits, what is left are digits where all are, and the value
-- has as many digits as were read, so that nothing wraps. Assumes nothing.
use Rattle.std.proofs.Common.{◌≡◌, ◌^◌, ◌<◌, drop}
use Rattle.text.specs.Numbers.{are_digits, value_from}
use Rattle.text.proofs.read_unsigned.Given as goal

abbrev pub invariant-loop-b : goal.invariant-loop-b
invariant-loop-b l =
    (value_from l.value (drop l.b-index l.digits) ≡ value_from 0 l.digits)
    × (are_digits l.digits ≡ are_digits (drop l.b-index l.digits))
    × (l.value < 10 ^ l.b-index)
