-- `cell_rows::row` meets its contract: the answer is the one expected where the two are the same in the specifications' terms. Assumes nothing.
use Rattle.std.proofs.Common.{◌≡◌, IsTrue, ◌↔◌, rules, sym, ap, ◌∙◌}
use Rattle.cells.specs.Cells.{cell_answer, cell_of}
use Rattle.vectors.proofs.CellLaws.{same_answer}
use Rattle.vectors.proofs.cell_rows.row.Goals as goal

pub returns : goal.returns
returns g c =
    let decides : IsTrue c.verdict.result ↔ (c.cell-found.result ≡ c.args.right) = search rules in
    let is : cell_answer c.cell-found.result ≡ cell_of c.args.side c.args.easting c.args.northing = search rules in
    ((λ h. sym is ∙ ap cell_answer (decides.0 h)), λ h. decides.1 (same_answer _ _ (is ∙ h)))
