-- Names as RFC 5280 section 7.1 compares them.
use Rattle.std.specs.Prelude.{ℕ, ◌==◌, nat_eq, nat_le, List, length, Bool, true, false, ◌&&◌, if◌then◌else◌}
use Rattle.std.specs.List.{list_all, list_any}
use Rattle.std.specs.Cmp.Lexicographic.{pointwise}
use Rattle.der_tlv.specs.declared.tag.Tag.{Tag}
use Rattle.der_tlv.specs.declared.tag.Tag.TheVariants as tags
use Rattle.der_tlv.specs.Identifier.{same_identifier}
use Rattle.der_elem.specs.declared.form.Form as form
use Rattle.der_opaque.specs.declared.any_ref.AnyRef.{AnyRef}
use Rattle.der_opaque.specs.AnyRef.{contents_of, tag_of}
use Rattle.der_opaque.specs.ObjectIdentifierRef.{octets_of}
use Rattle.der_lists.specs.Items.{AreItems}
use Rattle.der_lists.specs.ListRef as list
use Rattle.der_lists.specs.SetRef as set
use Rattle.der_pkix.specs.declared.name.attribute_type_and_value.AttributeTypeAndValue.{AttributeTypeAndValue}
use Rattle.der_pkix.specs.declared.name.rdn_sequence.RdnSequence.{RdnSequence}
use Rattle.der_pkix.specs.declared.name.relative_distinguished_name.RelativeDistinguishedName.{RelativeDistinguishedName}
use Rattle.der_pkix.specs.Name.AttributeTypeAndValue as attribute
use Rattle.der_pkix.specs.Name.RdnSequence as name
use Rattle.der_pkix.specs.Name.RelativeDistinguishedName as part
use Rattle.der_verify.specs.Shown.{AreShown}
use Rattle.der_verify.specs.Text.{prepared, same_character}

-- whether all octets are visible characters of ASCII or spaces (X.680 table 8, VisibleString)
abbrev pub is_visible : List ℕ → Bool
is_visible = list_all (λ x. nat_le 32 x && nat_le x 126)

-- the tag of a PrintableString or of a UTF8String
abbrev pub is_text_tag : Tag → Bool
is_text_tag tags.PrintableString = true
is_text_tag tags.Utf8String = true
is_text_tag _ = false

-- text that is compared without case and spaces
abbrev pub is_text : AnyRef → Bool
is_text v = is_text_tag (tag_of v) && is_visible (contents_of v)

-- the same tag and the same contents octets
abbrev pub same_exactly : AnyRef → AnyRef → Bool
same_exactly v w = same_identifier (tag_of v) (tag_of w) && pointwise nat_eq (contents_of v) (contents_of w)

-- values that match: text is compared after it is prepared, and any other values match if they are equal
abbrev pub same_value : AnyRef → AnyRef → Bool
same_value v w = if is_text v && is_text w then pointwise same_character (prepared (contents_of v)) (prepared (contents_of w)) else same_exactly v w

-- "Two naming attributes match if the attribute types are the same and the values of the attributes are an exact match after processing"
abbrev pub same_attribute : AttributeTypeAndValue → AttributeTypeAndValue → Bool
same_attribute a b = pointwise nat_eq (octets_of (attribute.type_ a)) (octets_of (attribute.type_ b)) && same_value (attribute.value a) (attribute.value b)

-- each attribute matches one of the others
abbrev pub each_matches : List AttributeTypeAndValue → List AttributeTypeAndValue → Bool
each_matches attributes others = list_all (λ a. list_any (same_attribute a) others) attributes

-- "Two relative distinguished names RDN1 and RDN2 match if they have the same number of naming attributes and for each naming attribute in RDN1 there is a matching naming attribute in RDN2"; also in RDN1 for each in RDN2, which adds a condition only if one has an attribute twice
abbrev pub same_part : List AttributeTypeAndValue → List AttributeTypeAndValue → Bool
same_part attributes others = length attributes == length others && (each_matches attributes others && each_matches others attributes)

-- the same number of parts, and each matches the part at its index
abbrev pub same_name : List (List AttributeTypeAndValue) → List (List AttributeTypeAndValue) → Bool
same_name = pointwise same_part

-- the attributes of a part of a name
abbrev pub AreAttributes : form.Ghosts AttributeTypeAndValue → RelativeDistinguishedName → List AttributeTypeAndValue → Type 0
AreAttributes A p attributes = AreItems A (set.octets_of (part.items_of p)) attributes

-- the attributes of each part of a name
abbrev pub AreParts : form.Ghosts RelativeDistinguishedName → form.Ghosts AttributeTypeAndValue → RdnSequence → List (List AttributeTypeAndValue) → Type 0
AreParts P A n parts = AreShown P (AreAttributes A) (list.octets_of (name.items_of n)) parts
