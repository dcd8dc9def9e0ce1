-- The encoding of a part of a name, or of an attribute, determines its text.
use Rattle.std.specs.Prelude.{◌≡◌, ℕ, List}
use Rattle.std.proofs.Common.{subst}
use Rattle.der_tlv.specs.declared.tag.Tag.{Tag}
use Rattle.der_tlv.specs.declared.tag.Tag.TheVariants as tags
use Rattle.der_tlv.specs.HeaderOctets.{tlv}
use Rattle.der_tlv.specs.HeaderLaws.{tlv-injective}
use Rattle.der_elem.specs.declared.form.Form as form
use Rattle.der_opaque.specs.AnyRef.{contents_of, tag_of}
use Rattle.der_opaque.specs.ObjectIdentifierRef as identifier
use Rattle.der_pkix.specs.Name.AttributeTypeAndValue as attribute
use Rattle.der_pkix.specs.declared.name.attribute_type_and_value.AttributeTypeAndValue.{AttributeTypeAndValue}
use Rattle.der_pkix.specs.declared.name.relative_distinguished_name.RelativeDistinguishedName.{RelativeDistinguishedName}
use Rattle.der_pkix.specs.contracts.name.attribute_type_and_value.AttributeTypeAndValueFormValue.TheImpl as attribute_form
use Rattle.der_pkix.specs.contracts.name.relative_distinguished_name.RelativeDistinguishedNameFormValue.TheImpl as part_form
use Rattle.der_verify.specs.EqualEncodings.{same_fields}
use Rattle.der_verify.specs.Shown.{AreShown}
use Rattle.der_c.specs.AttributeText.{IsAttributeText}
use Rattle.der_c.specs.NameText.{IsPartText, ShowsAttribute}

-- two attributes with the same encoding have the same text
pub same_attribute_text : (v w : AttributeTypeAndValue) (text : List ℕ) → tlv tags.Sequence (attribute_form.ghosts.value.contents v) ≡ tlv tags.Sequence (attribute_form.ghosts.value.contents w) → ShowsAttribute v text → ShowsAttribute w text
same_attribute_text v w text e s =
    let same = same_fields v w e in
    let I : List ℕ → Type 0 = λ i. IsAttributeText i (tag_of (attribute.value v)) (contents_of (attribute.value v)) text in
    let T : Tag → Type 0 = λ t. IsAttributeText (identifier.octets_of (attribute.type_ w)) t (contents_of (attribute.value v)) text in
    let C : List ℕ → Type 0 = λ c. IsAttributeText (identifier.octets_of (attribute.type_ w)) (tag_of (attribute.value w)) c text in
    subst C same.contents (subst T same.tag (subst I same.type_ s))

-- two parts of a name with the same encoding have the same text
pub same_part_text : (A : form.Ghosts AttributeTypeAndValue) (v w : RelativeDistinguishedName) (text : List ℕ) → tlv tags.Set (part_form.ghosts.value.contents v) ≡ tlv tags.Set (part_form.ghosts.value.contents w) → IsPartText A v text → IsPartText A w text
same_part_text A v w text e s =
    (s.0, subst (λ octets. AreShown A ShowsAttribute octets s.0) (tlv-injective tags.Set tags.Set (part_form.ghosts.value.contents v) (part_form.ghosts.value.contents w) e).1 s.1, s.2)
