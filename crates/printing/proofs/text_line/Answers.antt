-- `text_line` gives line k, which is in UTF-8 as the text is. Assumes nothing.
use Rattle.std.proofs.Common.{◌≡◌, sym, ap, ◌∙◌}
use Rattle.std.specs.Str.{IsUtf8}
use Rattle.printing.specs.InnerTexts.{line_of}
use Rattle.printing.proofs.TextLaws.{line_utf8, given_utf8}
use Rattle.printing.proofs.text_line.Goals as goal

pub returns : goal.returns
returns c =
    let is : c.line.result.now ≡ line_of c.args.k c.args.text.now = c.line.ensures ∙ ap (line_of c.args.k) c.as_bytes.ensures.value in
    let valid : IsUtf8 c.line.result.now = rw is (line_utf8 c.args.k c.args.text.now (rw (sym c.as_bytes.ensures.value) c.as_bytes.ensures.utf8)) in
    ap (λ x. x.now) c.unwrap_or.ensures ∙ given_utf8 _ c.line.result.now c.from_utf8.result _ valid c.from_utf8.ensures.cases ∙ is
