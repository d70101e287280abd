-- Document 01, "The program": what a line is answered, as text. Bytes are ASCII.
use Rattle.std.specs.Prelude.{ℕ, List, ℤ, pos}
use Rattle.text.specs.Ascii.{ascii}
use Rattle.text.specs.Numbers.{labelled, pair_text}
use Rattle.units.specs.Refusals.{number}
use Rattle.replies.specs.declared.Reply.{Reply as Answer}
use Rattle.replies.specs.declared.Reply.TheVariants as answer

-- easting and northing, latitude and longitude, the refusal number, or that the line is of another form
pub data Reply : Type 0 where
  Plane : ℤ → ℤ → Reply
  Position : ℤ → ℤ → Reply
  Refused : ℕ → Reply
  Bad : Reply

-- a reply with the number of its refusal
abbrev pub replied : Answer → Reply
replied (answer.Plane E N) = Plane E N
replied (answer.Position φ lon) = Position φ lon
replied (answer.Refused refusal) = Refused (number refusal)
replied answer.Bad = Bad

-- "E 432100000 N 321000000", "P 187200000 36000000", "refused 4"; "A line of another form prints `bad line`."
abbrev pub reply_text : Reply → List ℕ
reply_text (Plane E N) = pair_text (ascii "E ") E (ascii " N ") N
reply_text (Position φ lon) = pair_text (ascii "P ") φ (ascii " ") lon
reply_text (Refused number) = labelled (ascii "refused ") (pos number)
reply_text Bad = ascii "bad line"
