-- Document 01, "The program": one line in, one line out, for ETRS-LAEA in whole units. Bytes are ASCII.
use Rattle.std.specs.Prelude.{ℕ, List, [], ◌∷◌, ◌++◌}
use Rattle.text.specs.Ascii.{newline}
use Rattle.requests.specs.Requests.{Request, Forward, Inverse, Bad, request_of}
use Rattle.latitudes.specs.Latitude.{latitude}
use Rattle.parameters.specs.ParameterSet.{etrs_laea}
use Rattle.azimuthal_forward.specs.Answer.{PlaneAnswer, Plane, Refused, forward_of}
use Rattle.azimuthal_inverse.specs.Answer.{GeodeticAnswer, Position, Refused as NotFound, inverse_of}
use Rattle.replies.specs.Replies.{Reply, Plane as PlaneReply, Position as PositionReply, Refused as RefusedReply, Bad as BadReply, reply_text}

-- "It answers E and N in cm, P latitude and longitude in mas, or the refusal."
abbrev pub plane_reply : PlaneAnswer → Reply
plane_reply (Plane E N) = PlaneReply E N
plane_reply (Refused number) = RefusedReply number

abbrev pub position_reply : GeodeticAnswer → Reply
position_reply (Position φ lon) = PositionReply φ.0 lon
position_reply (NotFound number) = RefusedReply number

unfoldable pub reply_of : Request → Reply
reply_of (Forward φ lon) = plane_reply (forward_of etrs_laea (latitude φ) lon)
reply_of (Inverse E N) = position_reply (inverse_of etrs_laea E N)
reply_of Bad = BadReply

-- the text that a line is answered with, and the line of it, with its end
unfoldable pub answer_text : List ℕ → List ℕ
answer_text line = reply_text (reply_of (request_of line))

unfoldable pub answer_line : List ℕ → List ℕ
answer_line line = answer_text line ++ (newline ∷ [])

-- the room that each answer's line has; `ANSWER_MOST` of src/ has this value
abbrev pub answer_most : ℕ
answer_most = 32
