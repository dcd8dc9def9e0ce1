use Rattle.std.proofs.Common.{ap, ◌∙◌}
use Rattle.der_opaque.specs.ObjectIdentifierRef.{octets_of}
use Rattle.der_pkix.specs.Name.AttributeTypeAndValue as attribute
use Rattle.der_c.proofs.NameParts.{text_of_fields}
use Rattle.der_c.proofs.name_text.AttributeTextsItemTextAttributeTypeAndValue.put_text.Goals as goal

pub returns : goal.returns
returns c = λ text s.
    c.put_attribute.ensures text (text_of_fields c.as_bytes.result.now (octets_of (attribute.type_ c.args.item.now)) c.value.result.now (attribute.value c.args.item.now) text (c.as_bytes.ensures.value ∙ ap octets_of c.type_.ensures) c.value.ensures s)
