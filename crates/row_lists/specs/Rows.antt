-- Document 01, "Refusal numbers": the points of two lists, forward and back, as three lists hold them.
use Rattle.std.specs.Prelude.{ℕ, zero, suc, List, [], ◌∷◌, map, Float}
use Rattle.parameters.specs.declared.Parameters.{Parameters}
use Rattle.pairs.specs.Pairs.{Row}
use Rattle.pairs.specs.Pairs.{degrees, metres}
use Rattle.points.specs.Points.{forward_row, inverse_row}

-- a point of a list: what the single call tells of it
abbrev pub forward_at : Parameters → Float → Float → Row
forward_at p latitude longitude = forward_row p (degrees latitude longitude)

abbrev pub inverse_at : Parameters → Float → Float → Row
inverse_at p first second = inverse_row p (metres first second)

-- the points of two lists, at each index
abbrev pub rows : (Float → Float → Row) → List Float → List Float → List Row
rows row [] ys = []
rows row (x ∷ xs) [] = []
rows row (x ∷ xs) (y ∷ ys) = row x y ∷ rows row xs ys

abbrev pub first_values : List Row → List Float
first_values = map (λ (r : Row). r.first)

abbrev pub second_values : List Row → List Float
second_values = map (λ (r : Row). r.second)

abbrev pub marks : List Row → List ℕ
marks = map (λ (r : Row). r.mark)

-- "the count of marks that are 0"
abbrev pub zeros : List ℕ → ℕ
zeros [] = 0
zeros (zero ∷ ms) = suc (zeros ms)
zeros (suc m ∷ ms) = zeros ms
