-- The cases on degrees and metres that document 01, "Points on both sides", marks P, each by computation; with doubles on which a wrong
-- way gives another answer, and the limits where they turn. A double is written m · 2^e with a sign; `negsuc 7` is the exponent −8.
-- Assumes nothing.
use Rattle.std.proofs.Common.{◌≡◌, ◌+◌, ◌*◌, ◌^◌, true, false, pos, negsuc, neg_ℤ, refl}
use lib.Ieee.{nan, fin, binary64, lt, neg, div, of_int}
use Rattle.integers.specs.Near.{nearest}
use Rattle.units.specs.Units.{degree, metre}
use Rattle.floats.specs.Conversion.{whole_of, float_of}
use Rattle.floats.specs.Limits.{is_finite, beyond, within_limit, latitude_limit, longitude_limit, plane_limit_float}

pub degree_256th : whole_of degree (fin false 1 (negsuc 7)) ≡ pos 14_063
unfolding whole_of nearest
degree_256th = refl

pub degree_minus_256th : whole_of degree (fin true 1 (negsuc 7)) ≡ neg_ℤ (pos 14_063)
unfolding whole_of nearest
degree_minus_256th = refl

pub metre_8th : whole_of metre (fin false 1 (negsuc 2)) ≡ pos 13
unfolding whole_of nearest
metre_8th = refl

-- the double 1.115 lies below 111.5 cm; its product formed in f64 is 111.5, which would go to 112
metre_1115 : whole_of metre (fin false 5_021_513_584_518_103 (negsuc 51)) ≡ pos 111
unfolding whole_of nearest
metre_1115 = refl

-- 35 cm is the double 0.35; the product of 35 with the double 0.01 is the next one up
cm_35 : float_of metre (pos 35) ≡ fin false 3_152_519_739_159_347 (negsuc 52)
unfolding float_of of_int div
cm_35 = refl

-- the limits are the numbers of the refusal table
latitude_limit_lem : of_int binary64 (pos 90) ≡ latitude_limit
unfolding of_int
latitude_limit_lem = refl

longitude_limit_lem : of_int binary64 (pos 180) ≡ longitude_limit
unfolding of_int
longitude_limit_lem = refl

plane_limit : of_int binary64 (pos 50_000_000) ≡ plane_limit_float
unfolding of_int
plane_limit = refl

-- 90 passes and the next double, 90 + 2^−46, does not; nor does NaN
ninety : within_limit latitude_limit latitude_limit ≡ true
unfolding within_limit is_finite beyond lt neg
ninety = refl

past_ninety : within_limit latitude_limit (fin false (90 * 2 ^ 46 + 1) (negsuc 45)) ≡ false
unfolding within_limit is_finite beyond lt neg
past_ninety = refl

not_a_number : within_limit latitude_limit nan ≡ false
unfolding within_limit is_finite
not_a_number = refl
