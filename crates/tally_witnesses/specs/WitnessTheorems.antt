-- A witness for each answer to a call on a tally, on tallies of 1 km cells: no condition is empty. What `FullWitness` states is proved as `full_witness`
-- in proofs/, and so the others.
use Rattle.std.specs.Prelude.{ℕ, zero, suc, ◌≡◌, true, false, List, [], ◌∷◌, ◌++◌, ℤ, pos, neg_ℤ, replicate, Float}
use Rattle.std.specs.Float.{nan, fin}
use Rattle.readings.specs.declared.Reading.TheVariants.{Power, Overloaded}
use Rattle.slots.specs.declared.LoopCell.{LoopCell}
use Rattle.slots.specs.declared.Slot.{Slot}
use Rattle.tallies.specs.declared.Tally.{Tally}
use Rattle.slots.specs.Slots.{slot_count}
use Rattle.shares.specs.Shares.{held_in, granted}
use Rattle.tallies.specs.Tallies.{Sums, empty_tally, made, tally_told, read_from}
use Rattle.tally_laws.specs.Histories.{Call, adding, clearing, reading, number_of, after, after_all}

-- a cell of a loop
abbrev pub cell_at : ℕ → ℤ → ℤ → LoopCell
cell_at loop east north = record { loop_number = loop; east = east; north = north }

-- 1,000 mW, 125 · 2³
abbrev pub watt : Float
watt = fin false 125 (pos 3)

abbrev pub fresh : Tally
fresh = empty_tally (pos 100_000)

-- a call of each kind that is accepted, at the cells that lie farthest out, of either loop
abbrev pub AcceptedWitnesses : Type 0
AcceptedWitnesses =
    (tally_told (made (pos 100_000)).answer ≡ 0)
    × (number_of fresh (adding (cell_at 1 (pos 50_000) (neg_ℤ (pos 50_000))) (Power watt)) ≡ 0)
    × (number_of fresh (adding (cell_at 2 (neg_ℤ (pos 50_000)) (pos 50_000)) (Overloaded watt)) ≡ 0)
    × (number_of fresh (clearing (cell_at 1 (pos 50_000) (pos 50_000))) ≡ 0)
    × (number_of fresh (reading (cell_at 2 (pos 50_000) (pos 50_000))) ≡ 0)

-- 45: loops 0 and 3 in every call; also where the side, the cell and the power are refused too
abbrev pub BadLoopWitnesses : Type 0
BadLoopWitnesses =
    (number_of fresh (adding (cell_at 0 (pos 0) (pos 0)) (Power watt)) ≡ 45)
    × (number_of fresh (clearing (cell_at 0 (pos 0) (pos 0))) ≡ 45)
    × (number_of fresh (reading (cell_at 0 (pos 0) (pos 0))) ≡ 45)
    × (number_of (made (pos 1_000)).tally (adding (cell_at 3 (pos 50_001) (pos 0)) (Power nan)) ≡ 45)
    × (number_of (made (pos 1_000)).tally (clearing (cell_at 3 (pos 50_001) (pos 0))) ≡ 45)
    × (number_of (made (pos 1_000)).tally (reading (cell_at 3 (pos 50_001) (pos 0))) ≡ 45)

-- 3: by the side, in every call, and by a number one too far on either axis
abbrev pub OutOfLimitsWitnesses : Type 0
OutOfLimitsWitnesses =
    (tally_told (made (pos 1_000)).answer ≡ 3)
    × (number_of (made (pos 1_000)).tally (adding (cell_at 1 (pos 0) (pos 0)) (Power watt)) ≡ 3)
    × (number_of (made (pos 1_000)).tally (clearing (cell_at 2 (pos 0) (pos 0))) ≡ 3)
    × (number_of (made (pos 1_000)).tally (reading (cell_at 1 (pos 0) (pos 0))) ≡ 3)
    × (number_of fresh (adding (cell_at 2 (pos 50_001) (pos 0)) (Power watt)) ≡ 3)
    × (number_of fresh (clearing (cell_at 1 (pos 0) (neg_ℤ (pos 50_001)))) ≡ 3)
    × (number_of fresh (reading (cell_at 2 (pos 0) (pos 50_001))) ≡ 3)

-- 41 and 42, of both kinds of reading: NaN, and 2,000 mW
abbrev pub PowerWitnesses : Type 0
PowerWitnesses =
    (number_of fresh (adding (cell_at 1 (pos 0) (pos 0)) (Power nan)) ≡ 41)
    × (number_of fresh (adding (cell_at 1 (pos 0) (pos 0)) (Overloaded nan)) ≡ 41)
    × (number_of fresh (adding (cell_at 2 (pos 0) (pos 0)) (Power (fin false 125 (pos 4)))) ≡ 42)
    × (number_of fresh (adding (cell_at 2 (pos 0) (pos 0)) (Overloaded (fin false 125 (pos 4)))) ≡ 42)

-- 43: after 1,000,000 readings of 1,000 mW the cell's sum is 10^15 nW, and one more of either kind is refused
abbrev pub FullWitness : Type 0
FullWitness =
    let cell : LoopCell = cell_at 1 (pos 0) (pos 0) in
    let full : Tally = after_all fresh (replicate 1_000_000 (adding cell (Power watt))) in
    ((read_from full cell).answer ≡ Sums 1_000_000_000_000_000 1_000_000 0)
    × (number_of full (adding cell (Power watt)) ≡ 43)
    × (number_of full (adding cell (Overloaded watt)) ≡ 43)

-- "A cell of one loop is not a cell of the other.": loop 2 reads zeros in loop 1's cell, and its clearing leaves what loop 1 reads
abbrev pub OwnCellsWitness : Type 0
OwnCellsWitness =
    let tally : Tally = after fresh (adding (cell_at 1 (pos 7) (pos 8)) (Overloaded watt)) in
    ((read_from tally (cell_at 2 (pos 7) (pos 8))).answer ≡ Sums 0 0 0)
    × ((read_from (after tally (clearing (cell_at 2 (pos 7) (pos 8)))) (cell_at 1 (pos 7) (pos 8))).answer ≡ Sums 0 0 1)

-- a loop's adding to cells with this number north, in a row eastwards from number 0, the last of them first
unfoldable pub row : ℕ → ℕ → ℕ → List Call
row loop north zero = []
row loop north (suc n) = adding (cell_at loop (pos n) (pos north)) (Overloaded watt) ∷ row loop north n

-- the numbers of the calls' answers
unfoldable pub numbers : Tally → List Call → List ℕ
numbers tally [] = []
numbers tally (call ∷ calls) = number_of tally call ∷ numbers (after tally call) calls

-- a loop's adding to a cell that no row has
abbrev pub further : ℕ → Call
further loop = adding (cell_at loop (pos 0) (pos 2)) (Power watt)

-- 44: one loop gets 160 cells and no more, and then the other its 96; a cell that has a slot takes readings still, and a slot that is freed goes to
-- the next
abbrev pub OneLoopWitness : Type 0
OneLoopWitness =
    let last : List Call = further 2 ∷ further 1 ∷ adding (cell_at 1 (pos 159) (pos 0)) (Power watt) ∷ clearing (cell_at 1 (pos 7) (pos 0)) ∷ further 2 ∷ [] in
    numbers fresh (row 1 0 160 ++ (further 1 ∷ (row 2 0 96 ++ last)))
    ≡ replicate 160 0 ++ (44 ∷ (replicate 96 0 ++ (44 ∷ 44 ∷ 0 ∷ 0 ∷ 0 ∷ [])))

-- with both at 96 the two get 64 more in all
abbrev pub BothLoopsWitness : Type 0
BothLoopsWitness =
    numbers fresh (row 1 0 96 ++ (row 2 0 96 ++ (row 1 1 40 ++ (row 2 1 24 ++ (further 1 ∷ further 2 ∷ [])))))
    ≡ replicate 256 0 ++ (44 ∷ 44 ∷ [])

-- 44 where the rule gives a slot and none is free, in a tally that no calls gave: all slots are a third loop's
abbrev pub NoneFreeWitness : Type 0
NoneFreeWitness =
    let slot : Slot = record { cell = cell_at 3 (pos 0) (pos 0); sum = 0; count = 1; overloads = 0 } in
    let tally : Tally = record { side = pos 100_000; slots = replicate slot_count slot } in
    (granted (held_in tally.slots) 1 ≡ true) × (number_of tally (further 1) ≡ 44)
