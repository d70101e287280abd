-- `lines::answer_line` meets its contract: there is room for the reply to what is asked for and for the newline after it. Assumes nothing.
use Rattle.std.proofs.Common.{◌<◌, ℕ, List, [], ◌∷◌, ◌++◌, ◌∙◌, ap, length, length-append, rules, arith}
use Rattle.text.specs.Ascii.{newline}
use Rattle.requests.specs.Requests.{asked}
use Rattle.replies.specs.Replies.{replied, reply_text}
use Rattle.lines.specs.Lines.{answer_most}
use Rattle.lines.proofs.Sizes.{reply_fits}
use Rattle.lines.proofs.answer_line.Goals as goal

pub push_reply-requires : goal.push_reply-requires
push_reply-requires c =
    let fits : length (reply_text (replied c.reply_to.result)) < answer_most = rw c.reply_to.ensures (reply_fits (asked c.args.request)) in
    (search rules, rw c.new-text.ensures (omega arith))

pub push_str-requires : goal.push_str-requires
push_str-requires c =
    let fits : length (reply_text (replied c.reply_to.result)) < answer_most = rw c.reply_to.ensures (reply_fits (asked c.args.request)) in
    let long = ap length c.push_reply.ensures ∙ length-append c.new-text.result.bytes (reply_text (replied c.reply_to.result)) in
    (search rules, rw (long, c.new-text.ensures) (omega arith))

pub returns : goal.returns
returns c =
    c.push_str.ensures.bytes
    ∙ ap (λ (l : List ℕ). l ++ (newline ∷ [])) (c.push_reply.ensures ∙ ap (λ (l : List ℕ). l ++ reply_text (replied c.reply_to.result)) c.new-text.ensures ∙ ap reply_text c.reply_to.ensures)
