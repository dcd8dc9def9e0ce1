use Rattle.std.proofs.Common.{[], ◌∷◌, ◌-◌, length, drop, sym, ◌∙◌, arith}
use Rattle.std.proofs.lemmas.List.{length-drop}
use Rattle.hex.specs.Hex.{encode_lower, lower_digits}
use Rattle.hex.proofs.HexLemmas.{length-encode_with}
use Rattle.der_lines.proofs.Replies.{last_octet, on_ok}
use Rattle.der_lines.proofs.answer.fill_reply.Goals as goal

pub returns : goal.returns
returns c =
    let reply = c.args.reply.now in
    let digits = length-encode_with lower_digits c.args.encoding.now in
    let after_head = length-drop 3 reply in
    let after_digits = length-drop (length reply - 1 - 3) (drop 3 reply) in
    let written = on_ok c.encode_to_slice.result (sym c.is_err.ensures.value ∙ c.if-is_err.false) c.encode_to_slice.ensures.written in
    rw (c.copy_from_slice.ensures.after, written) (last_octet (111 ∷ 107 ∷ 32 ∷ []) (encode_lower c.args.encoding.now) _ _ 10 (omega (arith, digits, after_head, after_digits)) (omega (arith, digits)))
