-- The items of CertificatePolicies.
-- Made by tools/asn1 from extension.asn1.
use Rattle.der_extensions.specs.declared.extension.certificate_policies.CertificatePolicies.{CertificatePolicies}
use Rattle.der_extensions.specs.declared.extension.policy_information.PolicyInformation.{PolicyInformation}
use Rattle.der_lists.specs.declared.list_ref.ListRef.{ListRef}

abbrev pub items_of : CertificatePolicies → ListRef PolicyInformation
items_of v = v.items.list
