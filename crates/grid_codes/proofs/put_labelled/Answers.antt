-- `put_labelled` meets its contract: the letter stands before the digits, and what stood after them stays. Assumes nothing.
use Rattle.std.proofs.Common.{ℕ, List, ◌+◌, ◌-◌, ◌^◌, ◌<◌, ◌≤◌, ◌≡◌, ◌∙◌, ◌∷◌, ◌++◌, sym, ap, refl, arith, rules, length, drop, pos}
use Rattle.std.specs.Fmt.{decimal as std_decimal}
use Rattle.std.proofs.lemmas.Grind.{drop-set_at}
use Rattle.text.specs.Numbers.{number_text}
use Rattle.text.proofs.Digits.{text_natural}
use Rattle.text.proofs.Printing.{decimal_printed}
use Rattle.grid_codes.proofs.put_labelled.Goals as goal

digits : (n : ℕ) → n < 2 ^ 64 → std_decimal n ≡ number_text (pos n)
digits n h = decimal_printed n h ∙ sym (text_natural n)

pub write_digits-at-requires : goal.write_digits-at-requires
write_digits-at-requires c =
    let long = ap length (digits c.args.n c.ranges.n.fits) in
    (omega (arith, long, c.requires.0), omega (arith, c.requires.1, c.told-code))

pub overflow_sub-at : goal.overflow_sub-at
overflow_sub-at c =
    let long = ap length (digits c.args.n c.ranges.n.fits) in
    omega (arith, long, c.write_digits-at.ensures.start, c.requires.0)

pub returns-clause-start : goal.returns-clause-start
returns-clause-start c =
    let long = ap length (digits c.args.n c.ranges.n.fits) in
    omega (arith, long, c.write_digits-at.ensures.start, c.requires.0)

pub returns-clause-written : goal.returns-clause-written
returns-clause-written c =
    let is = digits c.args.n c.ranges.n.fits in
    let long = ap length is in
    let at = c.write_digits-at.result in
    let after = c.write_digits-at.new.buf in
    let some : 1 ≤ at = omega (arith, long, c.write_digits-at.ensures.start, c.requires.0) in
    let next : at - 1 + 1 ≡ at = omega (arith, some) in
    let kept : length after ≡ 18 = search rules in
    drop-set_at after (at - 1) (at - 1) c.args.letter refl (omega (arith, some, long, c.write_digits-at.ensures.start, c.requires.1, kept))
    ∙ ap (λ (l : List ℕ). c.args.letter ∷ l)
    (ap (λ (k : ℕ). drop k after) next
    ∙ c.write_digits-at.ensures.written
    ∙ ap (λ (l : List ℕ). l ++ drop c.args.end c.args.code.now) is)
