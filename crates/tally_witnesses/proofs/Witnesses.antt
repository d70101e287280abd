-- The witnesses but that of a full cell (FullCell.antt), computed. Assumes nothing.
use mathlib.Core.Path.{refl}
use lib.Ieee.{lt}
use Rattle.units.specs.Spans.{within, same}
use Rattle.floats.specs.Limits.{is_finite}
use Rattle.cells.specs.Cells.{accepted_side, numbered, numbers_refusal}
use Rattle.readings.specs.Readings.{beyond_power, power_refusal}
use Rattle.slots.specs.Slots.{free, same_cell, holds, index_of, slot_of, full}
use Rattle.shares.specs.Shares.{passing, of_loop, beyond, granted, new_slot, place_of}
use Rattle.tallies.specs.Tallies.{side_refusal, is_loop, named_refusal, slot_refusal, add_refusal, made, added, cleared, read_from}
use Rattle.tally_laws.specs.Histories.{after_all}
use Rattle.tally_witnesses.specs.WitnessTheorems.{AcceptedWitnesses, BadLoopWitnesses, OutOfLimitsWitnesses, PowerWitnesses, OwnCellsWitness, row, numbers}
use Rattle.tally_witnesses.specs.WitnessTheorems.{OneLoopWitness, BothLoopsWitness, NoneFreeWitness}

computed :
    AcceptedWitnesses
    × BadLoopWitnesses
    × OutOfLimitsWitnesses
    × PowerWitnesses
    × OwnCellsWitness
    × OneLoopWitness
    × BothLoopsWitness
    × NoneFreeWitness
unfolding after_all row numbers made added cleared read_from side_refusal is_loop named_refusal add_refusal slot_refusal slot_of place_of new_slot granted beyond
    passing of_loop index_of holds free same_cell full accepted_side same within numbers_refusal numbered power_refusal is_finite beyond_power lt
computed = (
  (refl, refl, refl, refl, refl),
  (refl, refl, refl, refl, refl, refl),
  (refl, refl, refl, refl, refl, refl, refl),
  (refl, refl, refl, refl),
  (refl, refl),
  refl,
  refl,
  (refl, refl),
)

pub accepted_witnesses : AcceptedWitnesses
accepted_witnesses = computed.0

pub bad_loop_witnesses : BadLoopWitnesses
bad_loop_witnesses = computed.1

pub out_of_limits_witnesses : OutOfLimitsWitnesses
out_of_limits_witnesses = computed.2

pub power_witnesses : PowerWitnesses
power_witnesses = computed.3

pub own_cells_witness : OwnCellsWitness
own_cells_witness = computed.4

pub one_loop_witness : OneLoopWitness
one_loop_witness = computed.5

pub both_loops_witness : BothLoopsWitness
both_loops_witness = computed.6

pub none_free_witness : NoneFreeWitness
none_free_witness = computed.7
