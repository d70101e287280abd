-- `put_code` meets its contract: the side stands before the north number, and that before the east number. Assumes nothing.
use Rattle.std.proofs.Common.{ℕ, List, [], ◌+◌, ◌≤◌, ◌≡◌, ◌∙◌, ◌++◌, ℤ, sym, ap, refl, arith, length, drop, pos, length-append}
use mathlib.Core.Path.{ap₂, subst}
use mathlib.Core.List.{append-nil}
use Rattle.std.proofs.Math.Seq.{drop-length}
use Rattle.text.specs.Ascii.{ascii}
use Rattle.text.specs.Numbers.{labelled, pair_text}
use Rattle.units.specs.Spans.{same, within}
use Rattle.cells.specs.declared.Side.{Side}
use Rattle.cells.specs.declared.Side.TheVariants.{Metres100, Kilometre, Kilometres10}
use Rattle.cells.specs.Cells.{side_length}
use Rattle.grid_codes.specs.Codes.{side_text, code_text}
use Rattle.grid_codes.proofs.put_code.Goals as goal

-- the lengths of a code's parts
parts :
    (side east north : ℤ) →
    length (code_text side east north) ≡ length (side_text side) + (length (labelled (ascii "N") north) + length (labelled (ascii "E") east))
unfolding code_text
parts side east north =
    length-append (side_text side) (pair_text (ascii "N") north (ascii "E") east)
    ∙ ap (λ (n : ℕ). length (side_text side) + n) (length-append (labelled (ascii "N") north) (labelled (ascii "E") east))

-- the text of each side
metres_100 : (s : Side) → s ≡ Metres100 → side_text (pos (side_length s)) ≡ ascii "100m"
unfolding side_text same within
metres_100 s is = rw is refl

kilometre : (s : Side) → s ≡ Kilometre → side_text (pos (side_length s)) ≡ ascii "1km"
unfolding side_text same within
kilometre s is = rw is refl

kilometres_10 : (s : Side) → s ≡ Kilometres10 → side_text (pos (side_length s)) ≡ ascii "10km"
unfolding side_text same within
kilometres_10 s is = rw is refl

-- the numbers, and the side before them
numbers :
    (north east : ℤ) (xs : List ℕ) →
    length xs ≡ 18 →
    {kept after : List ℕ} →
    after ≡ labelled (ascii "N") north ++ kept →
    kept ≡ labelled (ascii "E") east ++ drop 18 xs →
    after ≡ pair_text (ascii "N") north (ascii "E") east
numbers north east xs long of_north of_east =
    let none = subst (λ (n : ℕ). drop n xs ≡ []) long (drop-length xs) in
    of_north
    ∙ ap (λ (l : List ℕ). labelled (ascii "N") north ++ l)
    (of_east ∙ ap (λ (l : List ℕ). labelled (ascii "E") east ++ l) none ∙ append-nil (labelled (ascii "E") east))

joined :
    (side north east : ℤ) →
    {text after written : List ℕ} →
    side_text side ≡ text →
    written ≡ text ++ after →
    after ≡ pair_text (ascii "N") north (ascii "E") east →
    written ≡ code_text side east north
unfolding code_text
joined side north east is of_side of_numbers = of_side ∙ ap₂ ◌++◌ (sym is) of_numbers

-- there is room for the side before the numbers
room :
    (side north east : ℤ) {text : List ℕ} (from_east from_north : ℕ) →
    length (code_text side east north) ≤ 18 →
    from_east + length (labelled (ascii "E") east) ≡ 18 →
    from_north + length (labelled (ascii "N") north) ≡ from_east →
    side_text side ≡ text →
    (length text ≤ from_north) × (from_north ≤ 18)
room side north east from_east from_north most of_east of_north is =
    let short = ap length is in
    (omega (arith, parts side east north, most, of_east, of_north, short), omega (arith, of_east, of_north))

pub put_labelled-from_east-requires : goal.put_labelled-from_east-requires
put_labelled-from_east-requires c =
    (omega (arith, parts (pos (side_length c.args.side)) (pos c.args.east) (pos c.args.north), c.requires), omega arith)

pub put_labelled-from_north-requires : goal.put_labelled-from_north-requires
put_labelled-from_north-requires c = (
  omega (
    arith,
    parts (pos (side_length c.args.side)) (pos c.args.east) (pos c.args.north),
    c.requires,
    c.put_labelled-from_east.ensures.start,
  ),
  omega (arith, c.put_labelled-from_east.ensures.start),
)

pub put_before-requires : goal.put_before-requires
put_before-requires c =
    room (pos (side_length c.args.side)) (pos c.args.north) (pos c.args.east) _ _ c.requires c.put_labelled-from_east.ensures.start
    c.put_labelled-from_north.ensures.start (metres_100 c.args.side c.in-Metres100.is)

pub put_before-requires-in-Kilometre : goal.put_before-requires-in-Kilometre
put_before-requires-in-Kilometre c =
    room (pos (side_length c.args.side)) (pos c.args.north) (pos c.args.east) _ _ c.requires c.put_labelled-from_east.ensures.start
    c.put_labelled-from_north.ensures.start (kilometre c.args.side c.in-Kilometre.is)

pub put_before-requires-in-Kilometres10 : goal.put_before-requires-in-Kilometres10
put_before-requires-in-Kilometres10 c =
    room (pos (side_length c.args.side)) (pos c.args.north) (pos c.args.east) _ _ c.requires c.put_labelled-from_east.ensures.start
    c.put_labelled-from_north.ensures.start (kilometres_10 c.args.side c.in-Kilometres10.is)

pub returns-in-Metres100-clause-written : goal.returns-in-Metres100-clause-written
returns-in-Metres100-clause-written c =
    joined (pos (side_length c.args.side)) (pos c.args.north) (pos c.args.east) (metres_100 c.args.side c.in-Metres100.is) c.put_before.ensures.written
    (numbers (pos c.args.north) (pos c.args.east) c.args.code.now c.told-code c.put_labelled-from_north.ensures.written
    c.put_labelled-from_east.ensures.written)

pub returns-in-Kilometre-clause-written : goal.returns-in-Kilometre-clause-written
returns-in-Kilometre-clause-written c =
    joined (pos (side_length c.args.side)) (pos c.args.north) (pos c.args.east) (kilometre c.args.side c.in-Kilometre.is) c.put_before-in-Kilometre.ensures.written
    (numbers (pos c.args.north) (pos c.args.east) c.args.code.now c.told-code c.put_labelled-from_north.ensures.written
    c.put_labelled-from_east.ensures.written)

pub returns-in-Kilometres10-clause-written : goal.returns-in-Kilometres10-clause-written
returns-in-Kilometres10-clause-written c =
    joined (pos (side_length c.args.side)) (pos c.args.north) (pos c.args.east) (kilometres_10 c.args.side c.in-Kilometres10.is) c.put_before-in-Kilometres10.ensures.written
    (numbers (pos c.args.north) (pos c.args.east) c.args.code.now c.told-code c.put_labelled-from_north.ensures.written
    c.put_labelled-from_east.ensures.written)
