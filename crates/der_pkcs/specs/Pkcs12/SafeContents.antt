-- The items of SafeContents.
-- Made by tools/asn1 from pkcs12.asn1.
use Rattle.der_lists.specs.declared.list_ref.ListRef.{ListRef}
use Rattle.der_pkcs.specs.declared.pkcs12.safe_bag.SafeBag.{SafeBag}
use Rattle.der_pkcs.specs.declared.pkcs12.safe_contents.SafeContents.{SafeContents}

abbrev pub items_of : SafeContents → ListRef SafeBag
items_of v = v.items
