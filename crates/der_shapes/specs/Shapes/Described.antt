-- The fields of Described, by their names.
-- Made by tools/asn1 from shapes.asn1.
use Rattle.der_ascii.specs.declared.string_ref.CharacterStringRef.{CharacterStringRef}
use Rattle.der_bits.specs.declared.bit_string_ref.BitStringRef.{BitStringRef}
use Rattle.der_opaque.specs.declared.object_identifier_ref.ObjectIdentifierRef.{ObjectIdentifierRef}
use Rattle.der_opaque.specs.declared.octet_string_ref.OctetStringRef.{OctetStringRef}
use Rattle.der_shapes.specs.declared.shapes.color.Color.{Color}
use Rattle.der_shapes.specs.declared.shapes.described.Described.{Described}
use Rattle.der_text.specs.declared.utf8_string.Utf8StringRef.{Utf8StringRef}

-- name UTF8String DEFAULT "none"
abbrev pub name : Described → Utf8StringRef
name v = v.fields.list.first.value

-- place PrintableString DEFAULT ""
abbrev pub place : Described → CharacterStringRef 19
place v = v.fields.list.rest.first.value

-- mail [0] IA5String DEFAULT "a@b"
abbrev pub mail : Described → CharacterStringRef 22
mail v = v.fields.list.rest.rest.first.value.value

-- key OCTET STRING DEFAULT '00FF'H
abbrev pub key : Described → OctetStringRef
key v = v.fields.list.rest.rest.rest.first.value

-- bits BIT STRING DEFAULT '101'B
abbrev pub bits : Described → BitStringRef
bits v = v.fields.list.rest.rest.rest.rest.first.value

-- type OBJECT IDENTIFIER DEFAULT { iso (1) member-body (2) us (840) }
abbrev pub type_ : Described → ObjectIdentifierRef 39
type_ v = v.fields.list.rest.rest.rest.rest.rest.first.value

-- color [4] Color DEFAULT blue
abbrev pub color : Described → Color
color v = v.fields.list.rest.rest.rest.rest.rest.rest.first.value.value.value
