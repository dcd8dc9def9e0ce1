-- The number of characters that the text of an attribute has and may have (RFC 5280 appendix A.1).
use Rattle.std.specs.Prelude.{ℕ, ◌/◌, nat_le, List, length, Bool, true, ◌&&◌, Option, Some, None}
use Rattle.std.specs.List.{list_all}
use Rattle.der_tlv.specs.declared.tag.Tag.{Tag}
use Rattle.der_tlv.specs.declared.tag.Tag.TheVariants as tags
use Rattle.der_opaque.specs.AnyRef.{contents_of, tag_of}
use Rattle.der_opaque.specs.ObjectIdentifierRef.{octets_of}
use Rattle.der_verify.specs.Bounds.{character_count, fewest, most}
use Rattle.der_pkix.specs.declared.name.attribute_type_and_value.AttributeTypeAndValue.{AttributeTypeAndValue}
use Rattle.der_pkix.specs.Name.AttributeTypeAndValue as attribute

-- the number of characters in a string, by its tag: one octet each; in UTF-8 the octets that begin one; two octets each; another value is no text of DirectoryString or IA5String
abbrev pub characters : Tag → List ℕ → Option ℕ
characters tags.PrintableString octets = Some (length octets)
characters tags.Ia5String octets = Some (length octets)
characters tags.TeletexString octets = Some (length octets)
characters tags.Utf8String octets = Some (character_count octets)
characters tags.BmpString octets = Some (length octets / 2)
characters _ octets = None

-- a value that is no such text has no bound
abbrev pub may_be : List ℕ → Option ℕ → Bool
may_be type None = true
may_be type (Some n) = nat_le (fewest type) n && nat_le n (most type)

-- the text of an attribute has a size that its type allows
abbrev pub size_holds : AttributeTypeAndValue → Bool
size_holds a = may_be (octets_of (attribute.type_ a)) (characters (tag_of (attribute.value a)) (contents_of (attribute.value a)))

-- the text of each attribute of a part, or of a name, has a size that its type allows
abbrev pub sizes_hold_of : List AttributeTypeAndValue → Bool
sizes_hold_of = list_all size_holds

abbrev pub sizes_hold : List (List AttributeTypeAndValue) → Bool
sizes_hold = list_all sizes_hold_of
