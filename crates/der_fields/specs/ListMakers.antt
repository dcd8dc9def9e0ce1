-- The meaning of the octets of a list of fields.
use Rattle.std.specs.Prelude.{◌≡◌, [], ◌++◌, true, false, ◌||◌, None, length, refl}
use Rattle.std.proofs.Common.{ap, sym}
use Rattle.der_elem.specs.declared.form.Form as form
use Rattle.der_elem.specs.FormatMakers.{mapped_format}
use Rattle.der_fields.specs.declared.field.Field.{Field}
use Rattle.der_fields.specs.declared.end.End.{End}
use Rattle.der_fields.specs.FieldsFormat.{FieldsFormat}
use Rattle.der_fields.specs.FieldLists.{AcceptsField, Distinguished, first_tag_or_next, parse_field, parse_end}
use Rattle.der_fields.specs.FieldLaws.{field_of_octets, end_of_octets, parse_of_field, begins_first_field, same_length_field, accepts_field_joined, readable_field, all_comparable_field, re_read_field}

-- a field, and the fields after it: the octets are those of the field and then those of the others
abbrev pub field_list : {T U : Type 0} → form.Ghosts T → FieldsFormat U → FieldsFormat (Field T U)
field_list F G = record {
  octets = record {
    contents = λ v. F.encoding v.first ++ G.octets.contents v.rest;
    comparable = λ v w. F.comparable v.first w.first × G.octets.comparable v.rest w.rest × Distinguished F.tags (F.first_tag_of v.first) (G.first_tag v.rest) × Distinguished F.tags (F.first_tag_of w.first) (G.first_tag w.rest);
    re_reads = λ v. F.re_reads v.first || G.octets.re_reads v.rest;
    accepts = λ rules v. AcceptsField F.tags (F.first_tag_of v.first) (G.first_tag v.rest) (F.accepts rules) (G.octets.accepts rules) v.first v.rest;
    parse = parse_field F.parse G.octets.parse;
    readable = λ v. F.readable v.first × G.octets.readable v.rest × Distinguished F.tags (F.first_tag_of v.first) (G.first_tag v.rest);
    has_tag = λ v t. Unit {0};
    TAKES_MEMORY = F.TAKES_MEMORY || G.octets.TAKES_MEMORY;
    FAULTS_FIRST = false;
    parse_of_accepted = λ rules v. parse_of_field F G rules v.first v.rest;
    faults_of_octets = field_of_octets F.parse G.octets.parse F.faults_of_octets G.octets.faults_of_octets;
    same_length = λ rules v. same_length_field F G rules v.first v.rest;
    accepts_contents = λ rules v. accepts_field_joined F G rules v.first v.rest;
    only_readable = λ rules v. readable_field F G rules v.first v.rest;
    accepts_comparable = λ rules v w. all_comparable_field F G rules v.first w.first v.rest w.rest;
    re_reads_memory = λ v. re_read_field F G v.first v.rest;
  };
  first_tag = λ v. first_tag_or_next (F.first_tag_of v.first) (G.first_tag v.rest);
  begins_first = λ rules v. begins_first_field F G rules v.first v.rest;
}

-- no further field: no octets
abbrev pub end_list : FieldsFormat End
end_list = record {
  octets = record {
    contents = λ v. [];
    comparable = λ v w. Unit {0};
    re_reads = λ v. false;
    accepts = λ rules v c. c ≡ [];
    parse = parse_end;
    readable = λ v. Unit {0};
    has_tag = λ v t. Unit {0};
    TAKES_MEMORY = false;
    FAULTS_FIRST = true;
    parse_of_accepted = λ rules v p c a fits. ap (parse_end rules p) a;
    faults_of_octets = end_of_octets;
    same_length = λ rules v c a. ap length (sym a);
    accepts_contents = λ rules v r. refl;
    only_readable = λ rules v c a. tt;
    accepts_comparable = λ rules v w c d a b. tt;
    re_reads_memory = λ v e. e;
  };
  first_tag = λ v. None;
  begins_first = λ rules v c a. a;
}

-- a user's own struct that is seen as a list of fields
abbrev pub part_of : {T U : Type 0} → (T → U) → FieldsFormat U → FieldsFormat T
part_of list_of G = record {
  octets = mapped_format list_of G.octets;
  first_tag = λ v. G.first_tag (list_of v);
  begins_first = λ rules v. G.begins_first rules (list_of v);
}
