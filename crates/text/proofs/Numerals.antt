-- What bytes spell: the cases of `unsigned_of` and `number_of`. What is printed is read back, since it is one to ten digits of that value, and a
-- minus is no digit; what is read is printed as it stood, where it has no leading zeros. Assumes nothing.
use mathlib.Core.Path.{◌≡◌, refl, sym, ap, ◌∙◌}
use mathlib.Core.Bool.{Bool, true, false, ◌&&◌, and-false, cond, false≢true}
use mathlib.Core.List.{List, [], ◌∷◌}
use Prim.Native.Nat.{ℕ, suc, ◌<◌, ◌≤◌}
use native.Mathlib.Omega.{arith}
use borrow.Author.Tests.{le-leb, lt-leb, ne_eqb, leb-true}
use lib.Dec.{eqb, leb}
use lib.IntN.{ℤ, pos, negsuc}
use lib.ListN.{length, take, drop, get_or}
use Rattle.std.specs.Prelude.{nat_eq}
use Rattle.std.specs.Cmp.Lexicographic.{pointwise}
use lib.Seq.{drop-cons}
use Rattle.integers.specs.Near.{signed}
use Rattle.integers.proofs.Greatest.{both}
use Rattle.text.specs.Numbers.{Number, Other, minus, is_digit, are_digits, value_from, digits_most, unsigned_of, number_of, decimal, number_text}
use Rattle.text.specs.Theorems.{PrintedRead, ReadPrinted}
use Rattle.text.proofs.Digits.{decimal_length, decimal_some, decimal_digits, decimal_value, plain_digits, text_negative, text_natural}

-- ---- without a minus

module _ (negative : Bool) (bs : List ℕ) where
  pub unsigned_empty : length bs ≡ 0 → unsigned_of negative bs ≡ Other
  unfolding unsigned_of
  unsigned_empty h = rw (h, and-false (are_digits bs)) refl

  pub unsigned_long : digits_most < length bs → unsigned_of negative bs ≡ Other
  unfolding unsigned_of
  unsigned_long h = rw (lt-leb (length bs) digits_most h, and-false (leb 1 (length bs)), and-false (are_digits bs)) refl

  pub unsigned_not : are_digits bs ≡ false → unsigned_of negative bs ≡ Other
  unfolding unsigned_of
  unsigned_not h = rw h refl

  -- a byte that is no digit, at index i, after digits alone
  pub unsigned_other : (i : ℕ) → are_digits bs ≡ are_digits (drop i bs) → i < length bs → is_digit (get_or bs i 0) ≡ false → unsigned_of negative bs ≡ Other
  unsigned_other i same inside other = unsigned_not (same ∙ rw (drop-cons bs i 0 inside, other) refl)

  pub unsigned_is :
      are_digits bs ≡ true →
      1 ≤ length bs →
      length bs ≤ digits_most →
      unsigned_of negative bs ≡ Number (signed negative (value_from 0 bs))
  unfolding unsigned_of
  unsigned_is h low high = rw (h, le-leb 1 (length bs) low, le-leb (length bs) digits_most high) refl

-- ---- with or without

pub number_empty : (bs : List ℕ) → length bs ≡ 0 → number_of bs ≡ Other
unfolding number_of
number_empty [] h = refl
number_empty (b ∷ bs) h = absurd (omega arith)

pub number_minus : (bs : List ℕ) → pointwise nat_eq (take 1 bs) (minus ∷ []) ≡ true → number_of bs ≡ unsigned_of true (drop 1 bs)
unfolding number_of
number_minus [] h = absurd (false≢true h)
number_minus (b ∷ bs) h = rw (both (eqb b minus) true h).0 refl

pub number_plain : (bs : List ℕ) → pointwise nat_eq (take 1 bs) (minus ∷ []) ≡ false → number_of bs ≡ unsigned_of false bs
unfolding number_of
number_plain [] h = sym (unsigned_empty false [] refl)
number_plain (b ∷ bs) h = either (eqb b minus) h
  where
    either : (t : Bool) → (t && true) ≡ false → cond t (unsigned_of true bs) (unsigned_of false (b ∷ bs)) ≡ unsigned_of false (b ∷ bs)
    either true h = absurd (false≢true (sym h))
    either false h = refl

-- a minus and ten digits are eleven bytes
pub number_long : (bs : List ℕ) → suc digits_most < length bs → number_of bs ≡ Other
unfolding number_of
number_long [] h = refl
number_long (b ∷ bs) h = either (eqb b minus)
  where
    either : (t : Bool) → cond t (unsigned_of true bs) (unsigned_of false (b ∷ bs)) ≡ Other
    either true = unsigned_long true bs (omega arith)
    either false = unsigned_long false (b ∷ bs) (omega arith)

-- digits have no minus before them
number_digits : (bs : List ℕ) → are_digits bs ≡ true → number_of bs ≡ unsigned_of false bs
unfolding number_of unsigned_of
number_digits [] h = refl
number_digits (b ∷ bs) h =
    let low = leb-true 48 b (both (leb 48 b) (leb b 57) (both (is_digit b) (are_digits bs) h).0).0 in
    number_plain (b ∷ bs) (ap (λ (t : Bool). t && true) (ne_eqb b minus (λ e. omega arith)))

-- ---- printed and read

pub decimal_read : (negative : Bool) (n : ℕ) → n < 10_000_000_000 → unsigned_of negative (decimal n) ≡ Number (signed negative n)
decimal_read negative n h =
    unsigned_is negative (decimal n) (decimal_digits n) (decimal_some n) (decimal_length 9 n h)
    ∙ ap (λ (v : ℕ). Number (signed negative v)) (decimal_value n (omega arith))

pub printed_read : PrintedRead
printed_read (pos n) h = ap number_of (text_natural n) ∙ number_digits (decimal n) (decimal_digits n) ∙ decimal_read false n h
printed_read (negsuc n) h =
    ap number_of (text_negative (negsuc n) refl)
    ∙ number_minus (minus ∷ decimal (suc n)) refl
    ∙ decimal_read true (suc n) h

-- ---- read and printed

-- bytes that are read as a number are one to ten digits of that value
pub number_read :
    (negative : Bool) (bs : List ℕ) (z : ℤ) →
    unsigned_of negative bs ≡ Number z →
    (are_digits bs ≡ true) × (1 ≤ length bs) × (length bs ≤ digits_most) × (z ≡ signed negative (value_from 0 bs))
unfolding unsigned_of
number_read negative bs z e =
    let read = either (are_digits bs && (leb 1 (length bs) && leb (length bs) digits_most)) (signed negative (value_from 0 bs)) e in
    let parts = both (are_digits bs) (leb 1 (length bs) && leb (length bs) digits_most) read.0 in
    let lengths = both (leb 1 (length bs)) (leb (length bs) digits_most) parts.1 in
    (parts.0, leb-true 1 (length bs) lengths.0, leb-true (length bs) digits_most lengths.1, read.1)
  where
    either : (t : Bool) (v : ℤ) → cond t (Number v) Other ≡ Number z → (t ≡ true) × (z ≡ v)
    either true v e = (refl, (cc))
    either false v e = let n : ◌≡◌ {A = ℕ} 0 1 = cc in absurd (omega arith)

pub read_printed : ReadPrinted
read_printed bytes z plain e =
    let read = number_read false bytes z e in
    ap number_text read.3 ∙ text_natural (value_from 0 bytes) ∙ plain_digits bytes plain read.0 read.1 read.2
