-- The refusal of a number: no two refusals have the same one. Assumes nothing.
use mathlib.Core.Path.{◌≡◌, refl}
use Prim.Native.Nat.{ℕ}
use Rattle.std.proofs.Common.{cond, eqb}
use Rattle.units.specs.declared.refusals.Refusal.{Refusal}
use Rattle.units.specs.declared.refusals.Refusal.TheVariants.{NotFinite, OutOfLimits, TooFar, UnequalLists, LongLists}
use Rattle.units.specs.declared.refusals.Refusal.TheVariants.{BadA, BadE2, BadLat0, BadLon0, BadFalseEasting, BadFalseNorthing}
use Rattle.units.specs.declared.refusals.Refusal.TheVariants.{NotACode, NegativeCell, LittleRoom, PowerNotFinite, PowerOutOfLimits, FullCell, NoNewSlot, BadLoop}
use Rattle.units.specs.Refusals.{number}

-- of a number that none has, the last
pub refusal_of : ℕ → Refusal
refusal_of n = cond (eqb n 2) NotFinite (cond (eqb n 3) OutOfLimits (cond (eqb n 4) TooFar (cond (eqb n 5) UnequalLists (cond (eqb n 6) LongLists (cond (eqb n 11) BadA (cond (eqb n 12) BadE2 (cond (eqb n 13) BadLat0 (cond (eqb n 14) BadLon0 (cond (eqb n 15) BadFalseEasting (cond (eqb n 16) BadFalseNorthing (cond (eqb n 31) NotACode (cond (eqb n 32) NegativeCell (cond (eqb n 33) LittleRoom (cond (eqb n 41) PowerNotFinite (cond (eqb n 42) PowerOutOfLimits (cond (eqb n 43) FullCell (cond (eqb n 44) NoNewSlot BadLoop)))))))))))))))))

pub refusal_is : (r : Refusal) → refusal_of (number r) ≡ r
unfolding refusal_of
refusal_is NotFinite = refl
refusal_is OutOfLimits = refl
refusal_is TooFar = refl
refusal_is UnequalLists = refl
refusal_is LongLists = refl
refusal_is BadA = refl
refusal_is BadE2 = refl
refusal_is BadLat0 = refl
refusal_is BadLon0 = refl
refusal_is BadFalseEasting = refl
refusal_is BadFalseNorthing = refl
refusal_is NotACode = refl
refusal_is NegativeCell = refl
refusal_is LittleRoom = refl
refusal_is PowerNotFinite = refl
refusal_is PowerOutOfLimits = refl
refusal_is FullCell = refl
refusal_is NoNewSlot = refl
refusal_is BadLoop = refl
