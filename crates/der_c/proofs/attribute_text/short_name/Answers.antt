use Rattle.std.proofs.Common.{◌∷◌, sym, ◌∙◌}
use Rattle.der_c.specs.AttributeText.{domain_component, user_id, x520_names}
use Rattle.der_c.proofs.AttributeParts.{others_named}
use Rattle.der_c.proofs.attribute_text.short_name.Goals as goal

pub returns : goal.returns
returns c =
    others_named domain_component (user_id ∷ x520_names) c.args.identifier.now c.name_of_x520.result (sym c.are_octets.ensures ∙ c.if-are_octets.false)
    (others_named user_id x520_names c.args.identifier.now c.name_of_x520.result (sym c.are_octets-2.ensures ∙ c.if-are_octets-2.false) c.name_of_x520.ensures)
