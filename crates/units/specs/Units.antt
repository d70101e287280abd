-- The units that every layer counts in: document 01, "Words" and "Degrees and metres", and document 02, e). The constants of `units` have these values.
use Rattle.std.specs.Prelude.{ℕ, ℤ, pos}

-- "U = 1,000,000,000. Ratios, sines and cosines are counted in billionths."
abbrev pub unit : ℕ
unit = 1_000_000_000

abbrev pub U : ℤ
U = pos unit

-- "90° = 324,000,000 mas. One minute = 60,000 mas."
abbrev pub minute : ℕ
minute = 60_000

abbrev pub right_angle : ℕ
right_angle = 324_000_000

abbrev pub half_turn : ℕ
half_turn = 648_000_000

abbrev pub full_turn : ℕ
full_turn = 1_296_000_000

-- mas in a degree
abbrev pub degree : ℕ
degree = 3_600_000

-- cm in a metre
abbrev pub metre : ℕ
metre = 100

-- nanowatts in a milliwatt: "whole nanowatts by near(value · 1,000,000)"
abbrev pub milliwatt : ℕ
milliwatt = 1_000_000

-- "±50,000,000 m (±5,000,000,000 cm)"
abbrev pub plane_limit : ℕ
plane_limit = 5_000_000_000
