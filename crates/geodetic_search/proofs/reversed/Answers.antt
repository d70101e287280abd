-- The coefficients are small, and so are their products over a radian. Nothing is stated of their values: the search that they start finds
-- the latitude wherever it starts. Assumes nothing.
use Rattle.proof_kit.proofs.Range.{code, fits, read_size}
use Rattle.proof_kit.proofs.Size.{as_size}
use Rattle.geodetic_search.proofs.reversed.Goals as goal

pub overflow_mul-cube : goal.overflow_mul-cube
overflow_mul-cube c = fits (search code depth 40 fits 20000) tt

pub overflow_mul-product-2 : goal.overflow_mul-product-2
overflow_mul-product-2 c = fits (search code depth 40 fits 20000) tt

pub overflow_sub-result : goal.overflow_sub-result
overflow_sub-result c = fits (search code depth 40 fits 20000) tt

pub overflow_mul-result-4 : goal.overflow_mul-result-4
overflow_mul-result-4 c = fits (search code depth 40 fits 20000) tt

pub overflow_add-result-2 : goal.overflow_add-result-2
overflow_add-result-2 c = fits (search (code, c.requires.k2_size, c.requires.k6_size) depth 40 fits 20000) tt

pub overflow_sub-result-3 : goal.overflow_sub-result-3
overflow_sub-result-3 c = fits (search (code, c.requires.k2_size, c.requires.k4_size, c.requires.k6_size) depth 40 fits 20000) tt

pub invariant_of-result : goal.invariant_of-result
invariant_of-result c =
    record {
      small =
          record {
            k2_size = rw as_size (read_size (search (code, c.requires.k2_size, c.requires.k4_size) depth 40 fits 20000) tt);
            k4_size = rw as_size (read_size (search (code, c.requires.k2_size, c.requires.k4_size) depth 40 fits 20000) tt);
            k6_size = rw as_size (read_size (search (code, c.requires.k2_size, c.requires.k4_size, c.requires.k6_size) depth 40 fits 20000) tt);
          };
    }
