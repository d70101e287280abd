-- Bytes cut at the first byte b.
use Rattle.std.specs.Prelude.{ℕ, suc, ◌+◌, ◌≡◌, Bool, true, false, List, [], ◌∷◌, eqb, length, take, drop}

-- one index further, but where b stood
unfoldable pub index_after : Bool → ℕ → ℕ
index_after true n = 0
index_after false n = suc n

-- the index of the first b, or the length where there is none
unfoldable pub index_of : ℕ → List ℕ → ℕ
index_of b [] = 0
index_of b (x ∷ xs) = index_after (eqb x b) (index_of b xs)

-- the bytes before the first b, or all where there is none
abbrev pub up_to : ℕ → List ℕ → List ℕ
up_to b xs = take (index_of b xs) xs

-- the bytes after the first b, or nothing where there is none
abbrev pub after : ℕ → List ℕ → List ℕ
after b xs = drop (suc (index_of b xs)) xs

-- The parts are those before and after the first b, which stands between them.
pub record IsCut (b : ℕ) (xs before rest : List ℕ) : Type 0 where
  pub before_is : before ≡ up_to b xs
  pub rest_is : rest ≡ after b xs
  pub at : length before ≡ index_of b xs
  pub whole : length before + length rest + 1 ≡ length xs
