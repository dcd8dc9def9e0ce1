use Rattle.std.proofs.Common.{ℕ, List, [], ◌∷◌, sym, ◌∙◌, subst, arith}
use Rattle.der_c.specs.AttributeText.{hex_pair}
use Rattle.der_c.specs.RoomText.{Puts}
use Rattle.der_c.proofs.AttributeParts.{escaped_control}
use Rattle.der_c.proofs.RoomTexts.{puts_both}
use Rattle.der_c.proofs.attribute_text.put_character.Goals as goal

pub returns-then-is_control : goal.returns-then-is_control
returns-then-is_control c =
    let P : List ℕ → Type 0 = λ t. Puts t c.args.room.now c.args.position c.put_pair.new.room c.put_pair.result in
    subst P (sym (escaped_control c.args.is_first c.args.is_last c.args.octet (sym c.is_control.ensures ∙ c.if-is_control.true)))
    (puts_both (92 ∷ []) (hex_pair c.args.octet) c.args.room.now c.put-next.new.room c.put_pair.new.room c.args.position c.put-next.result c.put_pair.result (omega arith) c.put-next.ensures c.put_pair.ensures)
