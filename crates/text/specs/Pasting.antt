-- Bytes put at an index of a list, over those that stood there.
use Rattle.std.specs.Prelude.{ℕ, ◌+◌, ◌≡◌, List, length}
use Rattle.std.proofs.Math.Seq.{paste}

-- xs with all of ys in the place of what stood from index `at` on; all else as it was
unfoldable pub pasted : List ℕ → ℕ → List ℕ → List ℕ
pasted xs at ys = paste xs at ys (length ys)

-- What a call leaves that puts ys at index `at` of xs and answers the index after them.
pub record Put (xs : List ℕ) (at : ℕ) (ys out : List ℕ) (end : ℕ) : Type 0 where
  pub bytes : out ≡ pasted xs at ys
  pub next : end ≡ at + length ys
