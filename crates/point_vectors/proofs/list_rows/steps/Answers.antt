-- `list_rows::steps` meets its contract: after i turns the first i elements are those of the definition, and after all turns all are.
-- Assumes nothing.
use Rattle.std.proofs.Common.{◌≡◌, ℕ, ◌<◌, length, sym, ap, ◌∙◌, le_antisymm, arith, rules}
use lib.Ieee.{Float, nan, binary64, mul}
use Rattle.row_lists.proofs.ListLaws.{filled, filled_more, filled_all}
use Rattle.point_vectors.specs.InnerLists.{room, steps_of}
use Rattle.point_vectors.proofs.StepLaws.{steps_length, step_at}
use Rattle.point_vectors.proofs.list_rows.steps.Goals as goal

pub loop-i-preserved : goal.loop-i-preserved
loop-i-preserved c =
    let i = c.loop-i.i in
    let step = c.args.step in
    let so_far = c.loop-i.invariant in
    let within : i < room = search rules in
    let element = ap (λ (k : Float). mul binary64 k step) c.nearest_u64_to_f64.ensures ∙ step_at room i step nan within in (
      so_far.0,
      filled_more i (steps_of step) c.numbers-out.result c.loop-i.out nan _ (steps_length 0 room step ∙ so_far.0) (omega arith) so_far.1 element,
    )

pub returns : goal.returns
returns c =
    let step = c.args.step in
    let out₀ = c.numbers-out.result in
    let inv = c.loop-i.invariant in
    let end : c.loop-i.i ≡ length out₀ = le_antisymm c.loop-i.auto.i-end c.loop-i-test.false ∙ inv.0 in
    let all = inv.1 ∙ ap (λ (k : ℕ). filled k (steps_of step) out₀) end ∙ filled_all (steps_of step) out₀ (steps_length 0 room step ∙ inv.0) in
    (all, sym (ap length all ∙ steps_length 0 room step))
