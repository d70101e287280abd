-- n counts a latitude φ from the South Pole, and the quicker sum at φ is so near the terms at φ and at φ + 1 that, where its rounding to φ − β
-- is safe by that much, both round to φ − β. Then φ is the greatest latitude. Assumes nothing.
use Rattle.std.proofs.Common.{◌≡◌, ◌≤◌, ◌*◌, ℕ, ◌∙◌, true, arith}
use lib.IntN.{ℤ, pos, nat_abs, ◌+ℤ◌, ◌-ℤ◌}
use Rattle.proof_kit.proofs.Range.{code, read, read_size, returned}
use Rattle.proof_kit.proofs.Size.{as_size, abs_via, abs_sub_sym}
use Rattle.integers.specs.Near.{near}
use Rattle.units.specs.Units.{unit}
use Rattle.latitudes.specs.Latitude.{three_terms}
use Rattle.latitudes.specs.InnerRounding.{terms_error}
use Rattle.latitudes.proofs.RoundingLaws.{safe_told}
use Rattle.latitudes.proofs.AuthalicLaws.{three_lines_size, three_terms_step}
use Rattle.geodetic_search.specs.Reverse.{from_south_pole}
use Rattle.geodetic_search.specs.InnerSearch.{settled_error}
use Rattle.geodetic_search.proofs.GeodeticLaws.{counted, settled_greatest}
use Rattle.geodetic_search.proofs.NotAbove.is_settled.Goals as goal

module _ (c : goal.After-settled_error) where
  abbrev φ : ℤ
  φ = (from_south_pole c.args.n).0

  abbrev about : ℤ
  about = c.three_lines-about.result

  abbrev exact : ℤ → ℤ
  exact x = let s = c.args.self.now.series in three_terms s.k2 s.k4 s.k6 x

  abbrev error : ℕ
  error = let s = c.args.self.now.series in settled_error s.k2 s.k4 s.k6

  error_is : c.settled_error.result ≡ error
  error_is = let e = c.terms-series.ensures in rw (e.0, e.1, e.2) at c.settled_error.ensures

  close : let s = c.args.self.now.series in nat_abs (about -ℤ exact φ) ≤ terms_error s.k2 s.k4 s.k6
  close = let e = c.terms-series.ensures in rw (e.0, e.1, e.2, counted c.args.n c.requires) at c.three_lines-about.ensures

  about_small : nat_abs about ≤ 47_000_000 * unit
  about_small = let e = c.terms-series.ensures in three_lines_size (rw (e.0, e.1, e.2) at c.terms-series.result.small) about φ close

  here : nat_abs (about -ℤ exact φ) ≤ error
  here = omega (arith, close)

  there : nat_abs (about -ℤ exact (φ +ℤ pos 1)) ≤ error
  there =
      let s = c.args.self.now.series in
      omega (arith, close, abs_via about (exact φ) (exact (φ +ℤ pos 1)), abs_sub_sym (exact φ) (exact (φ +ℤ pos 1)), three_terms_step s.k2 s.k4 s.k6 φ)

pub is_safe-requires : goal.is_safe-requires
is_safe-requires c =
    let it = c.args.self.now in (
      rw (returned c.three_lines-about.type_inv) (omega (arith, about_small c)),
      rw as_size (read_size (search (code, c.requires, it.beta_size) depth 40 fits 20000) tt),
      omega (arith, error_is c, it.small.k2_size, it.small.k4_size, it.small.k6_size),
    )

-- what is that near the quicker sum rounds to φ − β
module _ (c : goal.After-is_safe) (passed : c.is_safe.result ≡ true) where
  rounds : (m : ℤ) → nat_abs (about c.before -ℤ m) ≤ error c.before → near m unit ≡ φ c.before -ℤ c.args.self.now.beta.0
  unfolding from_south_pole
  rounds m h =
      safe_told (about c.before) _ c.is_safe.ensures passed (returned c.three_lines-about.type_inv) (error_is c.before) m h
      ∙ read (search (code, c.requires, c.args.self.now.beta_size) depth 40 fits 20000) tt

pub returns : goal.returns
returns c passed =
    let b = c.before in
    settled_greatest c.args.self.now.small c.args.self.now.beta c.args.n c.requires
    (rounds c passed (exact b (φ b)) (here b)) (rounds c passed (exact b (φ b +ℤ pos 1)) (there b))
