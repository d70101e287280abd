-- `writing::row` meets its contract: the answer and the bytes are those expected where they are the same in the specifications' terms. Assumes nothing.
use Rattle.std.proofs.Common.{◌≡◌, IsTrue, ◌↔◌, false, rules}
use Rattle.grid_codes.specs.Codes.{written_answer}
use Rattle.code_vectors.specs.InnerRows.{IsWritten}
use Rattle.code_vectors.proofs.AnswerLaws.{written_as}
use Rattle.code_vectors.proofs.writing.row.Goals.{then-eq, else-eq}
use Rattle.code_vectors.proofs.writing.row.Goals as goal

pub returns : goal.returns
returns g c =
    let a = c.args in
    let found = c.write_code-found.result in
    let left = c.write_code-found.new.out in
    let answered : IsTrue c.eq.result ↔ (found ≡ a.right) = search rules in
    let is : IsWritten a.side a.east a.north a.bytes.now (written_answer found) left = search rules in
    let same = written_as a.side a.east a.north a.bytes.now left a.expected.now found a.right is in
    let decides : IsTrue c.verdict.result ↔ ((found ≡ a.right) × (left ≡ a.expected.now)) =
    elim c.if-eq.branch [
      | then-eq w ↦
          let is_right : IsTrue c.eq.result = search rules in
          let bytes : IsTrue c.verdict.result ↔ (left ≡ a.expected.now) = search rules in
          ((λ h. (answered.0 is_right, bytes.0 h)), λ h. bytes.1 h.1)
      | else-eq w ↦
          let is_wrong : c.eq.result ≡ false = search rules in
          ((λ h. search rules), λ h. search rules)
    ]
    in
    ((λ h. same.0 (decides.0 h)), λ h. decides.1 (same.1 h))
