-- The fields of OriginatorInfo, by their names.
-- Made by tools/asn1 from enveloped.asn1.
use Rattle.std.specs.Prelude.{Option, option_map}
use Rattle.der_cms.specs.declared.cms.certificate_set.CertificateSet.{CertificateSet}
use Rattle.der_cms.specs.declared.cms.revocation_info_choices.RevocationInfoChoices.{RevocationInfoChoices}
use Rattle.der_enveloped.specs.declared.enveloped.originator_info.OriginatorInfo.{OriginatorInfo}

-- certs [0] IMPLICIT CertificateSet OPTIONAL
abbrev pub certs : OriginatorInfo → Option CertificateSet
certs v = option_map (λ x. x.value) v.fields.list.first

-- crls [1] IMPLICIT RevocationInfoChoices OPTIONAL
abbrev pub crls : OriginatorInfo → Option RevocationInfoChoices
crls v = option_map (λ x. x.value) v.fields.list.rest.first
