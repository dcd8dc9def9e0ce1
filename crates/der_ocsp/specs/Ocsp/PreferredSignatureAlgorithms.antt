-- The items of PreferredSignatureAlgorithms.
-- Made by tools/asn1 from ocsp.asn1.
use Rattle.der_lists.specs.declared.list_ref.ListRef.{ListRef}
use Rattle.der_ocsp.specs.declared.ocsp.preferred_signature_algorithm.PreferredSignatureAlgorithm.{PreferredSignatureAlgorithm}
use Rattle.der_ocsp.specs.declared.ocsp.preferred_signature_algorithms.PreferredSignatureAlgorithms.{PreferredSignatureAlgorithms}

abbrev pub items_of : PreferredSignatureAlgorithms → ListRef PreferredSignatureAlgorithm
items_of v = v.items
