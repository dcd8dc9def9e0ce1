-- The fields of SigningCertificateV2, by their names.
-- Made by tools/asn1 from ess.asn1.
use Rattle.std.specs.Prelude.{Option}
use Rattle.der_cms.specs.declared.ess.ess_cert_idv2.EssCertIdv2.{EssCertIdv2}
use Rattle.der_cms.specs.declared.ess.signing_certificate_v2.SigningCertificateV2.{SigningCertificateV2}
use Rattle.der_extensions.specs.declared.extension.policy_information.PolicyInformation.{PolicyInformation}
use Rattle.der_lists.specs.declared.list_ref.ListRef.{ListRef}

-- certs SEQUENCE OF ESSCertIDv2
abbrev pub certs : SigningCertificateV2 → ListRef EssCertIdv2
certs v = v.fields.list.first

-- policies SEQUENCE OF PolicyInformation OPTIONAL
abbrev pub policies : SigningCertificateV2 → Option (ListRef PolicyInformation)
policies v = v.fields.list.rest.first
