-- `line` gives line k: part k of the text split at its newlines, or nothing past the last. Assumes nothing.
use Rattle.std.proofs.Common.{refl, ap, ◌∙◌, eqb, rules, tests}
use Rattle.std.proofs.lemmas.Iterator.Consumers.{nth_from_yields_List}
use Rattle.std.proofs.lemmas.Iterator.Splits.{YieldsList-from_slice_split}
use Rattle.text.specs.Ascii.{newline}
use Rattle.printing.proofs.TextLaws.{part_or_nothing}
use Rattle.printing.proofs.line.Goals as goal

pub returns : goal.returns
returns c =
    ap (λ x. x.now) c.unwrap_or.ensures ∙ part_or_nothing c.args.text.now c.args.k _ _
    (nth_from_yields_List _ _ c.args.k c.nth.ensures.ran
    (YieldsList-from_slice_split _ (λ b. eqb b newline) c.args.text.now c.split.ensures.rest c.split.ensures.done c.split.ensures.closure
    (λ b r q k. search (rules, tests)))) refl
