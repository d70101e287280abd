-- `put_before` meets its contract: what stood from `end` on stays after the text. Assumes nothing.
use Rattle.std.proofs.Common.{ℕ, List, ◌+◌, ◌-◌, ◌≤◌, ◌≡◌, ◌∙◌, ◌++◌, ap, arith, length, take, drop}
use mathlib.Core.Path.{subst}
use mathlib.Core.List.{append_assoc}
use Rattle.std.proofs.Math.Seq.{drop-append_seam}
use Rattle.std.proofs.lemmas.List.{length-take-le}
use Rattle.text.specs.Pasting.{pasted}
use Rattle.text.proofs.Pasting.{pasted_parts}
use Rattle.grid_codes.proofs.put_before.Goals as goal

put_from : (xs : List ℕ) (at : ℕ) (ys : List ℕ) → at ≤ length xs → drop at (pasted xs at ys) ≡ ys ++ drop (at + length ys) xs
put_from xs at ys inside =
    let rest = ys ++ drop (at + length ys) xs in
    ap (drop at) (pasted_parts xs at ys ∙ append_assoc (take at xs) ys (drop (at + length ys) xs))
    ∙ subst (λ (n : ℕ). drop n (take at xs ++ rest) ≡ rest) (length-take-le at xs inside) (drop-append_seam (take at xs) rest)

pub returns-clause-written : goal.returns-clause-written
returns-clause-written c =
    let start = c.args.end - length c.args.text.now in
    let fits : start + length c.args.text.now ≡ c.args.end = omega (arith, c.requires.0) in
    ap (drop start) c.put_bytes.ensures.bytes
    ∙ put_from c.args.code.now start c.args.text.now (omega (arith, fits, c.requires.1, c.told-code))
    ∙ ap (λ (k : ℕ). c.args.text.now ++ drop k c.args.code.now) fits
