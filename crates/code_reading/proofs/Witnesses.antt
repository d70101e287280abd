-- The witnesses, by computation. Assumes nothing.
use mathlib.Core.Path.{refl}
use Rattle.text.specs.Cutting.{index_of, index_after}
use Rattle.units.specs.Spans.{within, same}
use Rattle.text.specs.Ascii.{same_text}
use Rattle.text.specs.Numbers.{unsigned_of}
use Rattle.grid_codes.specs.Codes.{side_text}
use Rattle.code_reading.specs.Reading.{side_named, cell_numeral, numbers_of, code_of}
use Rattle.code_reading.specs.Theorems.{ReadWitness, UnreadWitnesses}

pub read_witness : ReadWitness
unfolding side_text same within code_of side_named same_text numbers_of cell_numeral unsigned_of index_of index_after
read_witness = refl

pub unread_witnesses : UnreadWitnesses
unfolding side_text same within code_of side_named same_text numbers_of cell_numeral unsigned_of index_of index_after
unread_witnesses = (refl, refl, refl, refl, refl, refl, refl, refl, refl, refl)
