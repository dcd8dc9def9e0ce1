-- The fields of PKIStatusInfo, by their names.
-- Made by tools/asn1 from time_stamp.asn1.
use Rattle.std.specs.Prelude.{Option, ℕ}
use Rattle.der_bits.specs.declared.named_bits.NamedBitsRef.{NamedBitsRef}
use Rattle.der_time_stamp.specs.declared.time_stamp.pki_free_text.PkiFreeText.{PkiFreeText}
use Rattle.der_time_stamp.specs.declared.time_stamp.pki_status_info.PkiStatusInfo.{PkiStatusInfo}

-- status PKIStatus
abbrev pub status : PkiStatusInfo → ℕ
status v = v.fields.list.first

-- statusString PKIFreeText OPTIONAL
abbrev pub status_string : PkiStatusInfo → Option PkiFreeText
status_string v = v.fields.list.rest.first

-- failInfo PKIFailureInfo OPTIONAL
abbrev pub fail_info : PkiStatusInfo → Option NamedBitsRef
fail_info v = v.fields.list.rest.rest.first
