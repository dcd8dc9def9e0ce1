-- The fields of Bounded, by their names.
-- Made by tools/asn1 from shapes.asn1.
use Rattle.std.specs.Prelude.{Option, option_map, ℕ, ℤ}
use Rattle.der_ascii.specs.declared.string_ref.CharacterStringRef.{CharacterStringRef}
use Rattle.der_bits.specs.declared.bit_string_ref.BitStringRef.{BitStringRef}
use Rattle.der_constrained.specs.declared.alphabets.CharacterRange.{CharacterRange}
use Rattle.der_constrained.specs.declared.alphabets.CharacterUnion.{CharacterUnion}
use Rattle.der_constrained.specs.declared.alphabets.HasCharacters.{HasCharacters}
use Rattle.der_constrained.specs.declared.constrained.Constrained.{Constrained}
use Rattle.der_constrained.specs.declared.constraint.IntersectionOf.{IntersectionOf}
use Rattle.der_constrained.specs.declared.constraint.UnionOf.{UnionOf}
use Rattle.der_constrained.specs.declared.integers.InRange.{InRange}
use Rattle.der_constrained.specs.declared.sizes.HasSize.{HasSize}
use Rattle.der_lists.specs.declared.list_ref.ListRef.{ListRef}
use Rattle.der_opaque.specs.declared.octet_string_ref.OctetStringRef.{OctetStringRef}
use Rattle.der_shapes.specs.declared.shapes.bounded.Bounded.{Bounded}
use Rattle.der_text.specs.declared.utf8_string.Utf8StringRef.{Utf8StringRef}

-- small Small
abbrev pub small : Bounded → Constrained ℤ (InRange 18446744073709551611 10)
small v = v.fields.list.first

-- few [0] INTEGER (1 | 3..5) OPTIONAL
abbrev pub few : Bounded → Option (Constrained ℕ (UnionOf (InRange 1 1) (InRange 3 5)))
few v = option_map (λ x. x.value) v.fields.list.rest.first

-- code Code
abbrev pub code : Bounded → Constrained (CharacterStringRef 19) (IntersectionOf (HasSize 2 3) (HasCharacters (CharacterUnion (CharacterRange 48 57) (CharacterRange 65 90))))
code v = v.fields.list.rest.rest.first

-- octets [1] EXPLICIT OCTET STRING (SIZE (2 | 4)) OPTIONAL
abbrev pub octets : Bounded → Option (Constrained OctetStringRef (UnionOf (HasSize 2 2) (HasSize 4 4)))
octets v = option_map (λ x. x.fields.first) v.fields.list.rest.rest.rest.first

-- bits BIT STRING (SIZE (3..9))
abbrev pub bits : Bounded → Constrained BitStringRef (HasSize 3 9)
bits v = v.fields.list.rest.rest.rest.rest.first

-- text UTF8String (SIZE (1..4))
abbrev pub text : Bounded → Constrained Utf8StringRef (HasSize 1 4)
text v = v.fields.list.rest.rest.rest.rest.rest.first

-- list SEQUENCE OF INTEGER (0..9)
abbrev pub list : Bounded → ListRef (Constrained ℕ (InRange 0 9))
list v = v.fields.list.rest.rest.rest.rest.rest.rest.first
