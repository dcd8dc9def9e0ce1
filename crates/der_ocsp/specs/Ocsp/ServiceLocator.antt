-- The fields of ServiceLocator, by their names.
-- Made by tools/asn1 from ocsp.asn1.
use Rattle.der_extensions.specs.declared.extension.authority_info_access_syntax.AuthorityInfoAccessSyntax.{AuthorityInfoAccessSyntax}
use Rattle.der_ocsp.specs.declared.ocsp.service_locator.ServiceLocator.{ServiceLocator}
use Rattle.der_pkix.specs.declared.name.rdn_sequence.RdnSequence.{RdnSequence}

-- issuer Name
abbrev pub issuer : ServiceLocator → RdnSequence
issuer v = v.fields.list.first

-- locator AuthorityInfoAccessSyntax
abbrev pub locator : ServiceLocator → AuthorityInfoAccessSyntax
locator v = v.fields.list.rest.first
