-- The fields of AuthorityKeyIdentifier, by their names.
-- Made by tools/asn1 from extension.asn1.
use Rattle.std.specs.Prelude.{Option, option_map}
use Rattle.der_extensions.specs.declared.extension.authority_key_identifier.AuthorityKeyIdentifier.{AuthorityKeyIdentifier}
use Rattle.der_extensions.specs.declared.extension.general_names.GeneralNames.{GeneralNames}
use Rattle.der_numbers.specs.declared.int_ref.IntRef.{IntRef}
use Rattle.der_opaque.specs.declared.octet_string_ref.OctetStringRef.{OctetStringRef}

-- keyIdentifier [0] KeyIdentifier OPTIONAL
abbrev pub key_identifier : AuthorityKeyIdentifier → Option OctetStringRef
key_identifier v = option_map (λ x. x.value) v.fields.list.first

-- authorityCertIssuer [1] GeneralNames OPTIONAL
abbrev pub authority_cert_issuer : AuthorityKeyIdentifier → Option GeneralNames
authority_cert_issuer v = option_map (λ x. x.value) v.fields.list.rest.first

-- authorityCertSerialNumber [2] CertificateSerialNumber OPTIONAL
abbrev pub authority_cert_serial_number : AuthorityKeyIdentifier → Option IntRef
authority_cert_serial_number v = option_map (λ x. x.value) v.fields.list.rest.rest.first
