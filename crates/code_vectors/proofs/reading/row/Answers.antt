-- `reading::row` meets its contract: the answer is the one expected where the two are the same in the specifications' terms. Assumes nothing.
use Rattle.std.proofs.Common.{◌≡◌, IsTrue, ◌↔◌, rules, sym, ap, ◌∙◌}
use Rattle.code_reading.specs.Reading.{code_of, code_answer}
use Rattle.code_vectors.proofs.AnswerLaws.{same_read}
use Rattle.code_vectors.proofs.reading.row.Goals as goal

pub returns : goal.returns
returns g c =
    let decides : IsTrue c.verdict.result ↔ (c.read_code-found.result ≡ c.args.right) = search rules in
    let is : code_answer c.read_code-found.result ≡ code_of c.args.text.now = search rules in
    ((λ h. sym is ∙ ap code_answer (decides.0 h)), λ h. decides.1 (same_read _ _ (is ∙ h)))
