-- What the kit prints of a number is its text here: both put the last digit after the digits of the tenth. Assumes nothing.
use Rattle.std.proofs.Common.{◌≡◌, ℕ, suc, List, ◌^◌, ◌<◌, ◌∷◌, ℤ, pos, negsuc, FitsSigned, w64, sym, ap, ◌∙◌, refl, arith, rules}
use Rattle.std.specs.Fmt.{signed_decimal, decimal as std_decimal}
use Rattle.std.proofs.lemmas.Fmt.{decimal_from_appends, length-decimal-le}
use Rattle.text.specs.Numbers.{digits_within, decimal, number_text}
use Rattle.text.proofs.Digits.{text_negative, text_natural}

pub decimal_printed : (n : ℕ) → n < 2 ^ 64 → std_decimal n ≡ decimal n
unfolding decimal
decimal_printed n h = sym (decimal_from_appends digits_within (search rules) 20 n h (length-decimal-le 20 n (omega arith) (omega arith) h))

pub number_printed : (z : ℤ) → FitsSigned w64 z → signed_decimal z ≡ number_text z
number_printed (pos n) h = let fits = h.sfits in decimal_printed n (omega arith) ∙ sym (text_natural n)
number_printed (negsuc n) h =
    let fits = h.sfits in
    ap (λ (ds : List ℕ). 45 ∷ ds) (decimal_printed (suc n) (omega arith)) ∙ sym (text_negative (negsuc n) refl)
