-- How long the text of a reply is at most: a number below 10^11 has 11 digits and a minus, and the labels of two have 5 bytes; a refusal number
-- below 10 has one digit. Assumes nothing.
use mathlib.Core.List.{List}
use Prim.Native.Nat.{ℕ, ◌+◌, ◌^◌, ◌<◌, ◌≤◌}
use native.Mathlib.Omega.{arith}
use lib.Dec.{lit≤}
use lib.IntN.{ℤ, pos, nat_abs}
use lib.ListN.{length, length-append}
use Rattle.text.proofs.Digits.{text_size}
use Rattle.text.specs.Ascii.{ascii}
use Rattle.text.specs.Numbers.{pair_text}
use Rattle.replies.specs.Replies.{Reply, Plane, Position, Refused, Bad, reply_text}

-- both numbers have at most 11 digits
abbrev pub SmallPair : ℤ → ℤ → Type 0
SmallPair x y = (nat_abs x < 10 ^ 11) × (nat_abs y < 10 ^ 11)

abbrev pub Small : Reply → Type 0
Small (Plane E N) = SmallPair E N
Small (Position φ lon) = SmallPair φ lon
Small (Refused number) = number < 10
Small Bad = Unit {0}

pair_size :
    (first : List ℕ) (x : ℤ) (second : List ℕ) (y : ℤ) →
    length first + length second ≤ 5 →
    SmallPair x y →
    length (pair_text first x second y) ≤ 29
pair_size first x second y labels small =
    simp length-append (omega (arith, text_size 10 x small.0, text_size 10 y small.1))

pub reply_size : (r : Reply) → Small r → length (reply_text r) ≤ 29
reply_size (Plane E N) small = pair_size (ascii "E ") E (ascii " N ") N (lit≤ tt) small
reply_size (Position φ lon) small = pair_size (ascii "P ") φ (ascii " ") lon (lit≤ tt) small
reply_size (Refused number) small = omega (arith, text_size 0 (pos number) small)
reply_size Bad small = lit≤ tt
