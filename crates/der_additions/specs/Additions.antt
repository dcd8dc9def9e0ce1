-- The octets of Additions, and its format at the end of a list of fields.
use Rattle.std.specs.Prelude.{ℕ, List}
use Rattle.std.proofs.Common.{subst, sym}
use Rattle.der_elem.specs.FirstTags.{BeginsWithFirst}
use Rattle.der_elem.specs.FormatMakers.{format_with_tags}
use Rattle.der_fields.specs.FieldsFormat.{FieldsFormat}
use Rattle.der_lists.specs.ListRef as list_ref
use Rattle.der_additions.specs.declared.additions.Additions.{Additions}
use Rattle.der_additions.specs.Elements.{first_tag, parse_elements}
use Rattle.der_additions.specs.ElementLaws.{begins_with_first, elements_of_octets, elements_parsed}

-- the octets of all additions
abbrev pub octets_of : Additions → List ℕ
octets_of additions = list_ref.octets_of additions.list

-- each value is read from its own octets and from no others
abbrev pub additions_format : FieldsFormat Additions
additions_format = record {
  octets = format_with_tags octets_of (λ v t. Unit {0}) parse_elements (λ rules v p. elements_parsed (octets_of v) v.elements v.list.octets.short rules p) elements_of_octets;
  first_tag = λ v. first_tag (octets_of v);
  begins_first = λ rules v c e. subst (BeginsWithFirst (first_tag (octets_of v))) (sym e) (begins_with_first (octets_of v) v.elements);
}
