-- Document 01, "Refusal numbers", with those of requests a), c), e) and f) of document 02: the numbers by name, and chains of tests of which the first
-- that fails gives its number.
use Rattle.std.specs.Prelude.{ℕ, zero, suc, Bool, true, false, List, [], ◌∷◌, ◌⊎◌, ◌≡◌, Result, Ok, Err}
use Rattle.units.specs.declared.refusals.Refusal.{Refusal}
use Rattle.units.specs.declared.refusals.Refusal.TheVariants.{NotFinite, OutOfLimits, TooFar, UnequalLists, LongLists}
use Rattle.units.specs.declared.refusals.Refusal.TheVariants.{BadA, BadE2, BadLat0, BadLon0, BadFalseEasting, BadFalseNorthing}
use Rattle.units.specs.declared.refusals.Refusal.TheVariants.{NotACode, NegativeCell, LittleRoom, PowerNotFinite, PowerOutOfLimits, FullCell, NoNewSlot, BadLoop}

-- "a coordinate is NaN or infinite"
abbrev pub not_finite : ℕ
not_finite = 2

-- "latitude beyond ±90° or longitude beyond ±180°; easting or northing beyond ±50,000,000 m"; for cells "another side", and for codes "a number too
-- far from 0 on either side"
abbrev pub out_of_limits : ℕ
out_of_limits = 3

-- "too far from the centre, as in the steps"
abbrev pub too_far : ℕ
too_far = 4

-- "lent lists of unequal length"
abbrev pub unequal_lists : ℕ
unequal_lists = 5

-- "lists longer than 4,096"
abbrev pub long_lists : ℕ
long_lists = 6

-- "11 a, 12 e2, 13 φ0, 14 lon0, 15 FE, 16 FN": a field of the parameter set is outside its table
abbrev pub bad_a : ℕ
bad_a = 11

abbrev pub bad_e2 : ℕ
bad_e2 = 12

abbrev pub bad_lat0 : ℕ
bad_lat0 = 13

abbrev pub bad_lon0 : ℕ
bad_lon0 = 14

abbrev pub bad_false_easting : ℕ
bad_false_easting = 15

abbrev pub bad_false_northing : ℕ
bad_false_northing = 16

-- "31 text not of this form, 32 negative cell number, 33 too little room"
abbrev pub not_a_code : ℕ
not_a_code = 31

abbrev pub negative_cell : ℕ
negative_cell = 32

abbrev pub little_room : ℕ
little_room = 33

-- "41 NaN or infinite power, 42 below 0 or above 1,000 mW, 43 the cell has 1,000,000 readings of both kinds together"
abbrev pub power_not_finite : ℕ
power_not_finite = 41

abbrev pub power_out_of_limits : ℕ
power_out_of_limits = 42

abbrev pub full_cell : ℕ
full_cell = 43

-- "44 now means the rule above": the cell has no slot, and its loop does not get a new one
abbrev pub no_new_slot : ℕ
no_new_slot = 44

-- "45 for a loop number other than 1 or 2, tested first"
abbrev pub bad_loop : ℕ
bad_loop = 45

-- the number of each refusal
abbrev pub number : Refusal → ℕ
number NotFinite = not_finite
number OutOfLimits = out_of_limits
number TooFar = too_far
number UnequalLists = unequal_lists
number LongLists = long_lists
number BadA = bad_a
number BadE2 = bad_e2
number BadLat0 = bad_lat0
number BadLon0 = bad_lon0
number BadFalseEasting = bad_false_easting
number BadFalseNorthing = bad_false_northing
number NotACode = not_a_code
number NegativeCell = negative_cell
number LittleRoom = little_room
number PowerNotFinite = power_not_finite
number PowerOutOfLimits = power_out_of_limits
number FullCell = full_cell
number NoNewSlot = no_new_slot
number BadLoop = bad_loop

-- the number that an answer or a test is refused by; 0 where it is not
abbrev pub refusal_number : {A : Type 0} → Result A Refusal → ℕ
refusal_number (Ok given) = 0
refusal_number (Err refusal) = number refusal

-- where the test fails, the refusal number; else what the next tests say
abbrev pub unless : Bool → ℕ → ℕ → ℕ
unless true number next = next
unless false number next = number

-- an earlier refusal, where there is one; 0 is none
abbrev pub first_refusal : ℕ → ℕ → ℕ
first_refusal zero next = next
first_refusal (suc n) next = suc n

-- n is one of these numbers
abbrev pub OneOf : List ℕ → ℕ → Type 0
OneOf [] n = ⊥
OneOf (x ∷ xs) n = (n ≡ x) ⊎ OneOf xs n
