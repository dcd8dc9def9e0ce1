-- The result of comparing the fields of a SEQUENCE.
use Rattle.std.specs.Prelude.{Bool, true, false, Option, Some, None, Result}
use Rattle.std.specs.declared.cmp.Ordering.{Ordering}
use Rattle.std.specs.declared.cmp.Ordering.TheVariants.{Less, Equal, Greater}
use Rattle.der_tlv.specs.declared.error.Error.{Error}
use Rattle.der_tlv.specs.declared.tag.Tag.{Tag}
use Rattle.der_tlv.specs.Identifier.{identifier}
use Rattle.der_tlv.specs.Octets.{lex}
use Rattle.der_elem.specs.Comparing.{ComparesOctets}
use Rattle.der_elem.specs.FirstTags.{SamePresence}
use Rattle.der_fields.specs.FieldsFormat.{FieldsFormat}

-- the result of comparing fields
abbrev pub ComparesFields : {T : Type 0} → FieldsFormat T → T → T → Result Ordering Error → Type 0
ComparesFields G x y = ComparesOctets (G.octets.contents x) (G.octets.contents y) (G.octets.comparable x y → ⊥) (G.octets.re_reads x) (G.octets.re_reads y)

-- whether both fields are present or both absent
abbrev pub DecidesPresence : Option Tag → Option Tag → Bool → Type 0
DecidesPresence first second true = SamePresence first second
DecidesPresence first second false = SamePresence first second → ⊥

-- the order of identifier octets; absent ones are less than any other
abbrev pub lex_first_tags : Option Tag → Option Tag → Ordering
lex_first_tags None None = Equal
lex_first_tags None (Some u) = Less
lex_first_tags (Some t) None = Greater
lex_first_tags (Some t) (Some u) = lex (identifier t) (identifier u)
