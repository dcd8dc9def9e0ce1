-- The fields of CrlID, by their names.
-- Made by tools/asn1 from ocsp.asn1.
use Rattle.std.specs.Prelude.{Option, option_map}
use Rattle.der_ascii.specs.declared.string_ref.CharacterStringRef.{CharacterStringRef}
use Rattle.der_numbers.specs.declared.int_ref.IntRef.{IntRef}
use Rattle.der_ocsp.specs.declared.ocsp.crl_id.CrlId.{CrlId}
use Rattle.der_time.specs.declared.generalized_time.GeneralizedTime.{GeneralizedTime}

-- crlUrl [0] EXPLICIT IA5String OPTIONAL
abbrev pub crl_url : CrlId → Option (CharacterStringRef 22)
crl_url v = option_map (λ x. x.fields.first) v.fields.list.first

-- crlNum [1] EXPLICIT INTEGER OPTIONAL
abbrev pub crl_num : CrlId → Option IntRef
crl_num v = option_map (λ x. x.fields.first) v.fields.list.rest.first

-- crlTime [2] EXPLICIT GeneralizedTime OPTIONAL
abbrev pub crl_time : CrlId → Option GeneralizedTime
crl_time v = option_map (λ x. x.fields.first) v.fields.list.rest.rest.first
