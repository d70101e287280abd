-- The lines of a text: a newline ends a line, and the last may lack it.
use Rattle.std.specs.Prelude.{ℕ, zero, suc, List}
use Rattle.text.specs.Ascii.{newline}
use Rattle.text.specs.Cutting.{up_to, after}

-- the text from line k on, counted from 0; past the last line nothing is left
unfoldable pub from_line : ℕ → List ℕ → List ℕ
from_line zero text = text
from_line (suc k) text = from_line k (after newline text)

-- line k, without its end
unfoldable pub line_of : ℕ → List ℕ → List ℕ
line_of k text = up_to newline (from_line k text)
