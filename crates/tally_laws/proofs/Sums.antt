-- A slot that holds readings: their sum, their count and their overload count. One accepted reading more is held in the slot that an add writes. No
-- power is above 10⁹ nW and a slot that is not full has fewer than 10⁶ readings, so the sum stays far below the greatest that a slot holds, which
-- therefore never cuts it. Assumes nothing.
use mathlib.Core.Path.{◌≡◌, refl, sym, ◌∙◌}
use mathlib.Core.Bool.{false}
use mathlib.Core.List.{List, [], ◌∷◌}
use Prim.Native.Nat.{◌+◌, ◌*◌, ◌≤◌}
use native.Mathlib.Omega.{arith}
use lib.Dec.{leb}
use lib.ListN.{length}
use borrow.Author.Tests.{leb-false}
use Rattle.readings.specs.declared.Reading.{Reading}
use Rattle.readings.specs.declared.Reading.TheVariants.{Power, Overloaded}
use Rattle.readings.specs.Readings.{reading_refusal}
use Rattle.readings.proofs.Powers.{power_bounded}
use Rattle.slots.specs.declared.LoopCell.{LoopCell}
use Rattle.slots.specs.declared.Slot.{Slot}
use Rattle.slots.specs.Slots.{empty_slot, most_readings, full, with_reading}
use Rattle.tally_laws.specs.Histories.{sum_of, count_of, overloads_of}

pub kinds : (rs : List Reading) → count_of rs + overloads_of rs ≡ length rs
kinds [] = refl
kinds (Power milliwatts ∷ rs) = omega (arith, kinds rs)
kinds (Overloaded milliwatts ∷ rs) = omega (arith, kinds rs)

pub record Holding (rs : List Reading) (slot : Slot) : Type 0 where
  pub sum_is : slot.sum ≡ sum_of rs
  pub count_is : slot.count ≡ count_of rs
  pub overloads_is : slot.overloads ≡ overloads_of rs
  pub few : length rs ≤ most_readings
  pub small : sum_of rs ≤ 1_000_000_000 * count_of rs

pub holding_none : Holding [] empty_slot
holding_none = record { sum_is = refl; count_is = refl; overloads_is = refl; few = omega arith; small = omega arith }

module _ {rs : List Reading} {slot : Slot} (h : Holding rs slot) where
  pub full_is : full slot ≡ leb most_readings (length rs)
  unfolding full
  full_is =
      let all : slot.count + slot.overloads ≡ length rs = omega (arith, kinds rs) in
      rw all

  pub sum_bounded : sum_of rs ≤ 1_000_000_000_000_000
  sum_bounded = omega (arith, kinds rs)

  pub holding_more : (cell : LoopCell) (r : Reading) → reading_refusal r ≡ 0 → full slot ≡ false → Holding (r ∷ rs) (with_reading r cell slot)
  holding_more cell (Power milliwatts) good room =
      let power = power_bounded milliwatts good in
      let room_left = leb-false most_readings (length rs) (sym full_is ∙ room) in
      record {
        sum_is = omega (arith, kinds rs);
        count_is = omega arith;
        overloads_is = h.overloads_is;
        few = omega arith;
        small = omega arith;
      }
  holding_more cell (Overloaded milliwatts) good room =
      let room_left = leb-false most_readings (length rs) (sym full_is ∙ room) in
      record { sum_is = h.sum_is; count_is = h.count_is; overloads_is = omega arith; few = omega arith; small = h.small }
