-- One call for each kind of answer. What is refused is so by computation of the definitions; the cells that are answered hold their
-- coordinates, by computation. Assumes nothing.
use mathlib.Core.Path.{refl}
use lib.Dec.{T}
use lib.IntN.{ℤ, pos, neg_ℤ, ◌+ℤ◌, ◌*ℤ◌}
use lib.Signed.{le_z, lt_z, le_z_yes, lt_z_yes}
use Prim.Native.Nat.{ℕ}
use Rattle.units.specs.Spans.{within, same, on_plane}
use Rattle.cells.specs.Cells.{accepted_side, cell_refusal, cell_of}
use Rattle.cells.specs.Theorems.{InCell, CellWitnesses, SideWitnesses, PositionWitnesses}
use Rattle.cells.proofs.AnswerLaws.{cell_answered}

lies : {side : ℕ} {number z : ℤ} → T (le_z (number *ℤ pos side) z) → T (lt_z z ((number +ℤ pos 1) *ℤ pos side)) → InCell side number z
lies low high = record { from_first = le_z_yes low; before_next = lt_z_yes high }

pub cell_witnesses : CellWitnesses
unfolding accepted_side same within on_plane
cell_witnesses = (
  cell_answered (pos 100_000) (pos 396_279_945) (pos 299_971_885) (pos 3_962) (pos 2_999) refl refl (lies tt tt) (lies tt tt),
  cell_answered (pos 10_000) (neg_ℤ (pos 1)) (neg_ℤ (pos 10_001)) (neg_ℤ (pos 1)) (neg_ℤ (pos 2)) refl refl (lies tt tt) (lies tt tt),
  cell_answered (pos 1_000_000) (pos 5_000_000_000) (neg_ℤ (pos 5_000_000_000)) (pos 5_000) (neg_ℤ (pos 5_000)) refl refl (lies tt tt) (lies tt tt),
)

pub side_witnesses : SideWitnesses
unfolding accepted_side same within cell_refusal cell_of
side_witnesses = (refl, refl)

pub position_witnesses : PositionWitnesses
unfolding accepted_side same within on_plane cell_refusal cell_of
position_witnesses = (refl, refl)
