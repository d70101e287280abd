-- The first 26 bytes of a line decide its answer, since they decide what it asks for. Assumes nothing.
use mathlib.Core.Path.{ap}
use mathlib.Core.List.{[], ◌∷◌, ◌++◌}
use Rattle.requests.specs.Requests.{Request}
use Rattle.requests.proofs.Long.{kept_alike}
use Rattle.text.specs.Ascii.{newline}
use Rattle.lines.specs.Lines.{reply_of, answer_text, answer_line}
use Rattle.replies.specs.Replies.{reply_text}
use Rattle.lines.specs.Theorems.{AnswerKept}

pub answer_kept : AnswerKept
unfolding answer_line answer_text
answer_kept line = ap (λ (r : Request). reply_text (reply_of r) ++ (newline ∷ [])) (kept_alike line)
