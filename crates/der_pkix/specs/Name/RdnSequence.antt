-- The items of RDNSequence.
-- Made by tools/asn1 from name.asn1.
use Rattle.der_lists.specs.declared.list_ref.ListRef.{ListRef}
use Rattle.der_pkix.specs.declared.name.rdn_sequence.RdnSequence.{RdnSequence}
use Rattle.der_pkix.specs.declared.name.relative_distinguished_name.RelativeDistinguishedName.{RelativeDistinguishedName}

abbrev pub items_of : RdnSequence → ListRef RelativeDistinguishedName
items_of v = v.items
