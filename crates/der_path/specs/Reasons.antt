-- Sets of reasons (RFC 5280 sections 4.2.1.13, 5.2.5 and 6.3.2 (a)).
use Rattle.std.specs.Prelude.{Bool, true, not, ◌&&◌, ◌||◌, Option, Some, None}
use Rattle.der_bits.specs.NamedBitsRef.{contents_of}
use Rattle.der_bits.specs.BitString.{bit}
use Rattle.der_bits.specs.declared.named_bits.NamedBitsRef.{NamedBitsRef}
use Rattle.der_path.specs.declared.reasons.Reasons.{Reasons}

-- "the special value all-reasons", or no reason
abbrev pub all_reasons : Bool → Reasons
all_reasons are_there = record {
  key_compromise = are_there;
  ca_compromise = are_there;
  affiliation_changed = are_there;
  superseded = are_there;
  cessation_of_operation = are_there;
  certificate_hold = are_there;
  privilege_withdrawn = are_there;
  aa_compromise = are_there;
}

-- the reasons of ReasonFlags, by their bits
abbrev pub flagged : NamedBitsRef → Reasons
flagged flags = record {
  key_compromise = bit (contents_of flags) 1;
  ca_compromise = bit (contents_of flags) 2;
  affiliation_changed = bit (contents_of flags) 3;
  superseded = bit (contents_of flags) 4;
  cessation_of_operation = bit (contents_of flags) 5;
  certificate_hold = bit (contents_of flags) 6;
  privilege_withdrawn = bit (contents_of flags) 7;
  aa_compromise = bit (contents_of flags) 8;
}

abbrev pub reasons_of : Option NamedBitsRef → Reasons
reasons_of None = all_reasons true
reasons_of (Some flags) = flagged flags

abbrev pub is_all : Reasons → Bool
is_all r = r.key_compromise && (r.ca_compromise && (r.affiliation_changed && (r.superseded && (r.cessation_of_operation && (r.certificate_hold && (r.privilege_withdrawn && r.aa_compromise))))))

-- a reason that is not known yet
abbrev pub is_new : Bool → Bool → Bool
is_new has knows = has && not knows

abbrev pub has_new : Reasons → Reasons → Bool
has_new r k = is_new r.key_compromise k.key_compromise || (is_new r.ca_compromise k.ca_compromise || (is_new r.affiliation_changed k.affiliation_changed || (is_new r.superseded k.superseded || (is_new r.cessation_of_operation k.cessation_of_operation || (is_new r.certificate_hold k.certificate_hold || (is_new r.privilege_withdrawn k.privilege_withdrawn || is_new r.aa_compromise k.aa_compromise))))))

abbrev pub joined_reasons : Reasons → Reasons → Reasons
joined_reasons r s = record {
  key_compromise = r.key_compromise || s.key_compromise;
  ca_compromise = r.ca_compromise || s.ca_compromise;
  affiliation_changed = r.affiliation_changed || s.affiliation_changed;
  superseded = r.superseded || s.superseded;
  cessation_of_operation = r.cessation_of_operation || s.cessation_of_operation;
  certificate_hold = r.certificate_hold || s.certificate_hold;
  privilege_withdrawn = r.privilege_withdrawn || s.privilege_withdrawn;
  aa_compromise = r.aa_compromise || s.aa_compromise;
}

abbrev pub met_reasons : Reasons → Reasons → Reasons
met_reasons r s = record {
  key_compromise = r.key_compromise && s.key_compromise;
  ca_compromise = r.ca_compromise && s.ca_compromise;
  affiliation_changed = r.affiliation_changed && s.affiliation_changed;
  superseded = r.superseded && s.superseded;
  cessation_of_operation = r.cessation_of_operation && s.cessation_of_operation;
  certificate_hold = r.certificate_hold && s.certificate_hold;
  privilege_withdrawn = r.privilege_withdrawn && s.privilege_withdrawn;
  aa_compromise = r.aa_compromise && s.aa_compromise;
}
