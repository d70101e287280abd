-- The digits of a number. A number below 10 is one digit; of another the last digit is n % 10 and the others are those of n / 10, which has one
-- digit fewer. So a number below 10^m has at most m digits, they are digits, and their value is the number. Assumes nothing.
use mathlib.Core.Path.{◌≡◌, refl, sym, ap, ap₂, ◌∙◌, subst}
use mathlib.Core.Bool.{Bool, true, false, ◌&&◌, cond}
use mathlib.Core.List.{List, [], ◌∷◌, ◌++◌, append-nil, append_assoc}
use mathlib.Core.Logic.{⊎_elim}
use Prim.Native.Nat.{ℕ, zero, suc, ◌+◌, ◌*◌, ◌-◌, ◌/◌, ◌%◌, ◌^◌, ◌<◌, ◌≤◌}
use native.Mathlib.Nat.{pow-suc, pow-le-pow_right}
use native.Mathlib.Omega.{arith}
use borrow.Author.Tests.{lt-ltb, le-ltb, le-leb, lt-leb, ne_eqb, leb-true, eqb-false}
use lib.Dec.{leb, lit<}
use lib.IntN.{ℤ, pos, nat_abs}
use lib.Signed.{lt_z}
use lib.ListN.{length, get_or, length-append}
use Rattle.proof_kit.proofs.Order.{le_or_lt}
use Rattle.integers.proofs.Greatest.{both}
use Rattle.text.specs.Numbers.{minus, is_digit, are_digits, value_from, digits_most, leading_zero, digits_within, decimal, number_text}

-- ---- the two cases of a number's digits

one_digit : (most n : ℕ) → n < 10 → digits_within (suc most) n ≡ (48 + n) ∷ []
one_digit most n h = rw (lt-ltb n 10 h) refl

last_digit : (most n : ℕ) → 10 ≤ n → digits_within (suc most) n ≡ digits_within most (n / 10) ++ ((48 + n % 10) ∷ [])
last_digit most n h = rw (le-ltb n 10 h) refl

-- what holds of one digit and of more
by_digits :
    (P : List ℕ → Type 0) (most n : ℕ) →
    (n < 10 → P ((48 + n) ∷ [])) →
    (10 ≤ n → P (digits_within most (n / 10) ++ ((48 + n % 10) ∷ []))) →
    P (digits_within (suc most) n)
by_digits P most n one more =
    ⊎_elim (λ above. rw (last_digit most n above) (more above)) (λ below. rw (one_digit most n below) (one below)) (le_or_lt 10 n)

-- one digit fewer is left of a number above 9
shorter : (m n : ℕ) → n < 10 ^ suc m → n / 10 < 10 ^ m
shorter m n h = omega (arith, subst (λ (p : ℕ). n < p) (pow-suc 10 m) h)

-- Room for more digits than a number has changes nothing.
more_room : (m n : ℕ) → n < 10 ^ suc m → digits_within (suc (suc m)) n ≡ digits_within (suc m) n
more_room zero n h = one_digit 1 n h ∙ sym (one_digit 0 n h)
more_room (suc m) n h =
    by_digits (λ (l : List ℕ). l ≡ digits_within (suc (suc m)) n) (suc (suc m)) n
    (λ below. sym (one_digit (suc m) n below))
    (λ above.
    ap (λ (l : List ℕ). l ++ ((48 + n % 10) ∷ [])) (more_room m (n / 10) (shorter (suc m) n h))
    ∙ sym (last_digit (suc m) n above))

pub decimal_one : (n : ℕ) → n < 10 → decimal n ≡ (48 + n) ∷ []
unfolding decimal
decimal_one n h = one_digit 19 n h

pub decimal_last : (n : ℕ) → 10 ≤ n → n < 2 ^ 64 → decimal n ≡ decimal (n / 10) ++ ((48 + n % 10) ∷ [])
unfolding decimal
decimal_last n above h =
    last_digit 19 n above ∙ ap (λ (l : List ℕ). l ++ ((48 + n % 10) ∷ [])) (sym (more_room 18 (n / 10) (omega arith)))

-- one more digit
next_digit : (n b : ℕ) → 0 < n → 48 ≤ b → b ≤ 57 → 10 * n + (b - 48) < 2 ^ 64 → decimal (10 * n + (b - 48)) ≡ decimal n ++ (b ∷ [])
next_digit n b some low high small =
    decimal_last (10 * n + (b - 48)) (omega arith) small
    ∙ ap₂ (λ (m d : ℕ). decimal m ++ (d ∷ [])) (omega arith) (omega arith)

-- ---- how many there are

digits_length : (k m n : ℕ) → n < 10 ^ suc m → length (digits_within k n) ≤ suc m
digits_length zero m n h = omega arith
digits_length (suc k) zero n h = rw (one_digit k n h) (omega arith)
digits_length (suc k) (suc m) n h =
    by_digits (λ (l : List ℕ). length l ≤ suc (suc m)) k n
    (λ below. omega arith)
    (λ above. rw length-append (omega (arith, digits_length k m (n / 10) (shorter (suc m) n h))))

digits_some : (k n : ℕ) → 1 ≤ length (digits_within (suc k) n)
digits_some k n = by_digits (λ (l : List ℕ). 1 ≤ length l) k n (λ below. omega arith) (λ above. rw length-append (omega arith))

-- a number below 10^(m+1) has at most m + 1 digits, and one at least
pub decimal_length : (m n : ℕ) → n < 10 ^ suc m → length (decimal n) ≤ suc m
unfolding decimal
decimal_length m n h = digits_length 20 m n h

pub decimal_some : (n : ℕ) → 1 ≤ length (decimal n)
unfolding decimal
decimal_some n = digits_some 19 n

-- ---- that they are digits, of that value

pub digit : (b : ℕ) → 48 ≤ b → b ≤ 57 → is_digit b ≡ true
digit b low high = ap₂ ◌&&◌ (le-leb 48 b low) (le-leb b 57 high)

digit_edges : (b : ℕ) → is_digit b ≡ true → (48 ≤ b) × (b ≤ 57)
digit_edges b h = let parts = both (leb 48 b) (leb b 57) h in (leb-true 48 b parts.0, leb-true b 57 parts.1)

are_digits_more : (xs ys : List ℕ) → are_digits xs ≡ true → are_digits ys ≡ true → are_digits (xs ++ ys) ≡ true
are_digits_more [] ys p q = q
are_digits_more (x ∷ xs) ys p q =
    let h = both (is_digit x) (are_digits xs) p in
    ap₂ ◌&&◌ h.0 (are_digits_more xs ys h.1 q)

one_is_digit : (d : ℕ) → d < 10 → are_digits ((48 + d) ∷ []) ≡ true
one_is_digit d h = ap (λ (t : Bool). t && true) (digit (48 + d) (omega arith) (omega arith))

digits_are : (k n : ℕ) → are_digits (digits_within k n) ≡ true
digits_are zero n = refl
digits_are (suc k) n =
    by_digits (λ (l : List ℕ). are_digits l ≡ true) k n
    (one_is_digit n)
    (λ above. are_digits_more (digits_within k (n / 10)) _ (digits_are k (n / 10)) (one_is_digit (n % 10) (omega arith)))

value_more : (a : ℕ) (xs ys : List ℕ) → value_from a (xs ++ ys) ≡ value_from (value_from a xs) ys
value_more a [] ys = refl
value_more a (x ∷ xs) ys = value_more (10 * a + (x - 48)) xs ys

digits_value : (m n : ℕ) → n < 10 ^ suc m → value_from 0 (digits_within (suc m) n) ≡ n
digits_value zero n h = rw (one_digit 0 n h) (omega arith)
digits_value (suc m) n h =
    by_digits (λ (l : List ℕ). value_from 0 l ≡ n) (suc m) n
    (λ below. omega arith)
    (λ above. rw (value_more 0 (digits_within (suc m) (n / 10)), digits_value m (n / 10) (shorter (suc m) n h)) (omega arith))

pub decimal_digits : (n : ℕ) → are_digits (decimal n) ≡ true
unfolding decimal
decimal_digits n = digits_are 20 n

pub decimal_value : (n : ℕ) → n < 2 ^ 64 → value_from 0 (decimal n) ≡ n
unfolding decimal
decimal_value n h = digits_value 19 n (omega arith)

-- ---- that they have no leading zeros

first_of_more : (xs ys : List ℕ) → 1 ≤ length xs → get_or (xs ++ ys) 0 0 ≡ get_or xs 0 0
first_of_more [] ys some = absurd (omega arith)
first_of_more (x ∷ xs) ys some = refl

digits_first : (m n : ℕ) → 0 < n → n < 10 ^ suc m → get_or (digits_within (suc m) n) 0 0 ≡ 48 → ⊥
digits_first zero n some h = rw (one_digit 0 n h) (λ e. omega (arith, e))
digits_first (suc m) n some h =
    by_digits (λ (l : List ℕ). get_or l 0 0 ≡ 48 → ⊥) (suc m) n
    (λ below e. omega (arith, e))
    (λ above.
    rw (first_of_more (digits_within (suc m) (n / 10)) ((48 + n % 10) ∷ []) (digits_some m (n / 10)))
    (digits_first m (n / 10) (omega arith) (shorter (suc m) n h)))

plain_first : (bs : List ℕ) → (get_or bs 0 0 ≡ 48 → ⊥) → leading_zero bs ≡ false
plain_first [] h = refl
plain_first (b ∷ []) h = refl
plain_first (b ∷ c ∷ bs) h = ne_eqb b 48 h

pub decimal_plain : (n : ℕ) → n < 2 ^ 64 → leading_zero (decimal n) ≡ false
decimal_plain zero h = rw (decimal_one 0 (omega arith)) refl
decimal_plain (suc n) h = plain_first (decimal (suc n)) (unfold decimal in digits_first 19 (suc n) (omega arith) (omega arith))

-- The digits of a number above 0 and then others are those of the value of all, where they are 19 at most.
pub decimal_joined :
    (m n : ℕ) (bs : List ℕ) →
    0 < n →
    n < 10 ^ m →
    m + length bs ≤ 19 →
    are_digits bs ≡ true →
    decimal (value_from n bs) ≡ decimal n ++ bs
decimal_joined m n [] some size long h = sym (append-nil (decimal n))
decimal_joined m n (b ∷ bs) some size long h =
    let parts = both (is_digit b) (are_digits bs) h in
    let edges = digit_edges b parts.0 in
    let low : 48 ≤ b = edges.0 in
    let high : b ≤ 57 = edges.1 in
    let grown : 10 * n + (b - 48) < 10 ^ suc m = rw (pow-suc 10 m) (omega arith) in
    let longer : suc m ≤ 19 = omega arith in
    let power : 10 ^ suc m ≤ 10 ^ 19 = pow-le-pow_right (lit< tt) longer in
    decimal_joined (suc m) (10 * n + (b - 48)) bs (omega arith) grown (omega arith) parts.1
    ∙ ap (λ (l : List ℕ). l ++ bs) (next_digit n b some low high (omega arith))
    ∙ append_assoc (decimal n) (b ∷ []) bs

-- Digits without leading zeros are those of their value.
pub plain_digits :
    (bs : List ℕ) →
    leading_zero bs ≡ false →
    are_digits bs ≡ true →
    1 ≤ length bs →
    length bs ≤ digits_most →
    decimal (value_from 0 bs) ≡ bs
plain_digits [] plain h some few = absurd (omega arith)
plain_digits (b ∷ []) plain h some few =
    let edges = digit_edges b (both (is_digit b) true h).0 in
    let low : 48 ≤ b = edges.0 in
    let high : b ≤ 57 = edges.1 in
    decimal_one (10 * 0 + (b - 48)) (omega arith) ∙ ap (λ (d : ℕ). d ∷ []) (omega arith)
plain_digits (b ∷ c ∷ bs) plain h some few =
    let parts = both (is_digit b) (are_digits (c ∷ bs)) h in
    let edges = digit_edges b parts.0 in
    let low : 48 ≤ b = edges.0 in
    let high : b ≤ 57 = edges.1 in
    let first : ℕ = 10 * 0 + (b - 48) in
    let above : 0 < first = omega (arith, eqb-false b 48 plain) in
    decimal_joined 1 first (c ∷ bs) above (omega arith) (omega arith) parts.1
    ∙ ap (λ (l : List ℕ). l ++ (c ∷ bs)) (decimal_one first (omega arith) ∙ ap (λ (d : ℕ). d ∷ []) (omega arith))

-- ---- a number as it is printed

pub text_negative : (z : ℤ) → lt_z z (pos 0) ≡ true → number_text z ≡ minus ∷ decimal (nat_abs z)
unfolding number_text
text_negative z h = rw h refl

pub text_plain : (z : ℤ) → lt_z z (pos 0) ≡ false → number_text z ≡ decimal (nat_abs z)
unfolding number_text
text_plain z h = rw h refl

pub text_natural : (n : ℕ) → number_text (pos n) ≡ decimal n
text_natural n = text_plain (pos n) (lt-leb (suc n) 0 (omega arith))

-- the number's digits and a minus
pub text_size : (m : ℕ) (z : ℤ) → nat_abs z < 10 ^ suc m → length (number_text z) ≤ suc (suc m)
unfolding number_text
text_size m z h = either (lt_z z (pos 0))
  where
    either : (t : Bool) → length (cond t (minus ∷ decimal (nat_abs z)) (decimal (nat_abs z))) ≤ suc (suc m)
    either true = omega (arith, decimal_length m (nat_abs z) h)
    either false = omega (arith, decimal_length m (nat_abs z) h)
