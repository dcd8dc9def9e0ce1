-- The fields of SigningCertificate, by their names.
-- Made by tools/asn1 from ess.asn1.
use Rattle.std.specs.Prelude.{Option}
use Rattle.der_cms.specs.declared.ess.ess_cert_id.EssCertId.{EssCertId}
use Rattle.der_cms.specs.declared.ess.signing_certificate.SigningCertificate.{SigningCertificate}
use Rattle.der_extensions.specs.declared.extension.policy_information.PolicyInformation.{PolicyInformation}
use Rattle.der_lists.specs.declared.list_ref.ListRef.{ListRef}

-- certs SEQUENCE OF ESSCertID
abbrev pub certs : SigningCertificate → ListRef EssCertId
certs v = v.fields.list.first

-- policies SEQUENCE OF PolicyInformation OPTIONAL
abbrev pub policies : SigningCertificate → Option (ListRef PolicyInformation)
policies v = v.fields.list.rest.first
