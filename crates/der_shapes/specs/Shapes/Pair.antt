-- The fields of Pair, by their names.
-- Made by tools/asn1 from shapes.asn1.
use Rattle.der_opaque.specs.declared.any_ref.AnyRef.{AnyRef}
use Rattle.der_opaque.specs.declared.object_identifier.ObjectIdentifier.{ObjectIdentifier}
use Rattle.der_shapes.specs.declared.shapes.pair.Pair.{Pair}

-- type OBJECT IDENTIFIER
abbrev pub type_ : Pair → ObjectIdentifier 39
type_ v = v.fields.list.first

-- value ANY
abbrev pub value : Pair → AnyRef
value v = v.fields.list.rest.first
