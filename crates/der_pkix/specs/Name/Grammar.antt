-- The grammar of PkixNames, in the words of ASN.1.
-- Made by tools/asn1 from name.asn1.
use Rattle.std.specs.Prelude.{true}
use Rattle.der_lists.specs.Asn1.{SEQUENCE_OF, SET_OF, SET_OF_ANY_ORDER}
use Rattle.der_modules.specs.Asn1.{CHOICE_OF_ONE, Grammar, NOT_EMPTY, SEQUENCE, any_of, end, field, one}
use Rattle.der_opaque.specs.AnyForm.{parse_any}
use Rattle.der_opaque.specs.ObjectIdentifierOctets.{parse_identifier}
use Rattle.der_tlv.specs.declared.tag.Tag.TheVariants as tags

abbrev pub ANY : Grammar
ANY = any_of (λ t. true) parse_any

abbrev pub OBJECT_IDENTIFIER_39 : Grammar
OBJECT_IDENTIFIER_39 = one tags.ObjectIdentifier (parse_identifier 39)

-- AttributeType ::= OBJECT IDENTIFIER
abbrev pub attribute_type : Grammar
attribute_type =
    OBJECT_IDENTIFIER_39

-- AttributeValue ::= ANY
abbrev pub attribute_value : Grammar
attribute_value =
    ANY

-- Attribute ::= SEQUENCE {
--      type    AttributeType,
--      values  SET OF AttributeValue
-- }
abbrev pub attribute : Grammar
attribute =
    SEQUENCE
    (field attribute_type
    (field (SET_OF_ANY_ORDER attribute_value)
    end))

-- AttributeTypeAndValue ::= SEQUENCE {
--      type   AttributeType,
--      value  AttributeValue }
abbrev pub attribute_type_and_value : Grammar
attribute_type_and_value =
    SEQUENCE
    (field attribute_type
    (field attribute_value
    end))

-- RelativeDistinguishedName ::= SET SIZE (1..MAX) OF AttributeTypeAndValue
abbrev pub relative_distinguished_name : Grammar
relative_distinguished_name =
    NOT_EMPTY (SET_OF attribute_type_and_value)

-- RDNSequence ::= SEQUENCE OF RelativeDistinguishedName
abbrev pub rdn_sequence : Grammar
rdn_sequence =
    SEQUENCE_OF relative_distinguished_name

-- Name ::= CHOICE { -- only one possibility for now --
--      rdnSequence  RDNSequence }
abbrev pub name : Grammar
name =
    CHOICE_OF_ONE rdn_sequence

-- DistinguishedName ::= RDNSequence
abbrev pub distinguished_name : Grammar
distinguished_name =
    rdn_sequence
