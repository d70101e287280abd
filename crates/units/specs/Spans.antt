-- Which whole numbers lie within limits, and a longitude brought inside its own.
use Rattle.std.specs.Prelude.{Bool, ◌&&◌, cond, ℕ, ℤ, pos, neg_ℤ, ◌+ℤ◌, ◌-ℤ◌}
use Rattle.std.specs.Int.Signed.{lt_z, le_z}
use Rattle.units.specs.Units.{half_turn, full_turn, plane_limit}

-- from low to high, both counted
unfoldable pub within : ℤ → ℤ → ℤ → Bool
within low high z = le_z low z && le_z z high

-- "exactly"
unfoldable pub same : ℤ → ℤ → Bool
same x y = within y y x

-- not beyond ±limit
abbrev pub inside : ℕ → ℤ → Bool
inside limit z = within (neg_ℤ (pos limit)) (pos limit) z

-- "easting or northing beyond ±50,000,000 m (±5,000,000,000 cm)" is refused 3
unfoldable pub on_plane : ℤ → ℤ → Bool
on_plane E N = inside plane_limit E && inside plane_limit N

-- "brought above −180° and to at most 180°", from above −540° and at most 540°
unfoldable pub wrapped : ℤ → ℤ
wrapped lon = cond (le_z lon (neg_ℤ (pos half_turn))) (lon +ℤ pos full_turn) (cond (lt_z (pos half_turn) lon) (lon -ℤ pos full_turn) lon)
