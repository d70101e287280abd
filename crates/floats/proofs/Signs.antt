-- A whole number as a sign and a size: the two make the number again, by the two forms of a whole number. Assumes nothing.
use Rattle.std.proofs.Common.{◌≡◌, ℕ, Bool, true, false, ℤ, pos, negsuc, nat_abs, refl}
use Rattle.proof_kit.proofs.Size.{abs_neg}
use Rattle.integers.specs.Near.{signed}

abbrev pub negative : ℤ → Bool
negative (pos n) = false
negative (negsuc n) = true

pub signed_again : (n : ℤ) → signed (negative n) (nat_abs n) ≡ n
signed_again (pos n) = refl
signed_again (negsuc n) = refl

pub signed_size : (s : Bool) (n : ℕ) → nat_abs (signed s n) ≡ n
signed_size true n = abs_neg (pos n)
signed_size false n = refl

pub signed_zero : (s : Bool) → signed s 0 ≡ pos 0
signed_zero true = refl
signed_zero false = refl
