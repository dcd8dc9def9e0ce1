-- The fields of Lists, by their names.
-- Made by tools/asn1 from shapes.asn1.
use Rattle.std.specs.Prelude.{Option, option_map}
use Rattle.der_bits.specs.declared.bit_string_ref.BitStringRef.{BitStringRef}
use Rattle.der_lists.specs.declared.list_ref.ListRef.{ListRef}
use Rattle.der_lists.specs.declared.non_empty_ref.NonEmptyRef.{NonEmptyRef}
use Rattle.der_lists.specs.declared.set_ref.SetRef.{SetRef}
use Rattle.der_shapes.specs.declared.shapes.lists.Lists.{Lists}
use Rattle.der_shapes.specs.declared.shapes.numbers.Numbers.{Numbers}
use Rattle.der_shapes.specs.declared.shapes.ordered.Ordered.{Ordered}
use Rattle.der_shapes.specs.declared.shapes.unordered.Unordered.{Unordered}

-- numbers Numbers
abbrev pub numbers : Lists → Numbers
numbers v = v.fields.list.first

-- some SEQUENCE SIZE (1..MAX) OF Numbers
abbrev pub some : Lists → NonEmptyRef (ListRef Numbers)
some v = v.fields.list.rest.first

-- ordered [0] EXPLICIT Ordered OPTIONAL
abbrev pub ordered : Lists → Option Ordered
ordered v = option_map (λ x. x.fields.first) v.fields.list.rest.rest.first

-- unordered [1] Unordered OPTIONAL
abbrev pub unordered : Lists → Option Unordered
unordered v = option_map (λ x. x.value) v.fields.list.rest.rest.rest.first

-- bits SET OF BIT STRING
abbrev pub bits : Lists → SetRef BitStringRef
bits v = v.fields.list.rest.rest.rest.rest.first
