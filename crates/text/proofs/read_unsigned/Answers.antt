-- `text::read_unsigned` meets its contract: at the end of the digits the value is theirs. Assumes nothing.
use Rattle.std.proofs.Common.{◌≤◌, length, sym, ap, ◌∙◌, arith}
use borrow.Author.Tests.{eqb-false}
use lib.ListN.{drop_of_length-le}
use Rattle.proof_kit.proofs.Range.{returned}
use Rattle.integers.specs.Near.{signed}
use Rattle.text.specs.Numbers.{Number, are_digits, value_from}
use Rattle.text.proofs.Numerals.{unsigned_is}
use Rattle.text.proofs.read_unsigned.Goals as goal

pub returns : goal.returns
returns c =
    let digits = c.args.digits.now in
    let value = c.loop-b.value in
    let none = drop_of_length-le digits {i = c.loop-b.b-index} (omega arith) in
    let whole = sym (ap (value_from value) none) ∙ c.loop-b.invariant.0 in
    let some : 1 ≤ length digits = omega (arith, eqb-false (length digits) 0 (sym c.if-is_empty.ensures)) in
    ap Number (returned c.signed.type_inv ∙ c.signed.ensures ∙ ap (signed c.args.negative) whole)
    ∙ sym (unsigned_is c.args.negative digits (c.loop-b.invariant.1 ∙ ap are_digits none) some (omega arith))
