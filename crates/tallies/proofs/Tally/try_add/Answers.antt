-- Each test by the side as it was handed on.
use Rattle.std.proofs.Common.{◌≡◌, sym, ap, ◌∙◌, rules, w64, FitsSigned, to_z-of_z}
use Rattle.std.proofs.lemmas.Result.{err_from_is_err_and}
use Rattle.slots.specs.Slots.{full}
use Rattle.units.specs.Refusals.{number}
use Rattle.units.specs.declared.refusals.Refusal.TheVariants.{NoNewSlot}
use Rattle.tallies.proofs.Outcomes.{bad_cell, bad_reading, bad_slot, slot_full, slot_none, add_done}
use Rattle.tallies.proofs.Tally.try_add.Goals as goal

pub returns-in_err-check_name : goal.returns-in_err-check_name
returns-in_err-check_name c =
    let p = err_from_is_err_and c.from_residual.result c.from_residual.ensures.1 in
    let fits : FitsSigned w64 c.args.self.now.side = search rules in
    rw (p.1, p.2) (bad_cell _ _ _ _ (rw (to_z-of_z fits) at c.in_err-check_name.ensures))

pub returns-in_err-check : goal.returns-in_err-check
returns-in_err-check c =
    let p = err_from_is_err_and c.from_residual-in_err-check.result c.from_residual-in_err-check.ensures.1 in
    let fits : FitsSigned w64 c.args.self.now.side = search rules in
    let good = rw (to_z-of_z fits) at c.in_ok-check_name.ensures in
    rw (p.1, p.2) (bad_reading _ _ _ good _ c.in_err-check.ensures)

pub returns-in_err-unless : goal.returns-in_err-unless
returns-in_err-unless c =
    let p = err_from_is_err_and c.from_residual-in_err-unless.result c.from_residual-in_err-unless.ensures.1 in
    let fits : FitsSigned w64 c.args.self.now.side = search rules in
    let good = rw (to_z-of_z fits) at c.in_ok-check_name.ensures in
    let full_is = c.is_full.ensures ∙ ap full c.held_at-slot.ensures in
    rw (p.1, p.2) (bad_slot _ _ _ good c.in_ok-check.ensures _ (slot_full _ _ _ (rw full_is at c.in_err-unless.ensures)))

pub returns-in_err-place : goal.returns-in_err-place
returns-in_err-place c =
    let p = err_from_is_err_and c.from_residual-in_err-place.result c.from_residual-in_err-place.ensures.1 in
    let fits : FitsSigned w64 c.args.self.now.side = search rules in
    let good = rw (to_z-of_z fits) at c.in_ok-check_name.ensures in
    let full_is = c.is_full.ensures ∙ ap full c.held_at-slot.ensures in
    let none = c.in_err-place.ensures.ok_part in
    let refused : c.in_err-place.field-0.0 ≡ NoNewSlot = let value = rw none at c.in_err-place.ensures.value in cc in
    rw (p.1, p.2) (bad_slot _ _ _ good c.in_ok-check.ensures _
    (ap number refused ∙ slot_none _ _ (rw full_is at c.in_ok-unless.ensures) (sym c.place_for.ensures ∙ none)))

pub returns : goal.returns
returns c =
    let fits : FitsSigned w64 c.args.self.now.side = search rules in
    let good = rw (to_z-of_z fits) at c.in_ok-check_name.ensures in
    let full_is = c.is_full.ensures ∙ ap full c.held_at-slot.ensures in
    let some = sym c.place_for.ensures ∙ c.in_ok-place.ensures.ok_part in
    rw (c.with_reading.ensures, c.held_at-slot.ensures)
    (add_done _ _ _ good c.in_ok-check.ensures _ (rw full_is at c.in_ok-unless.ensures) some)
