-- The items of OtherPrimeInfos.
-- Made by tools/asn1 from key.asn1.
use Rattle.der_lists.specs.declared.list_ref.ListRef.{ListRef}
use Rattle.der_pkix.specs.declared.key.other_prime_info.OtherPrimeInfo.{OtherPrimeInfo}
use Rattle.der_pkix.specs.declared.key.other_prime_infos.OtherPrimeInfos.{OtherPrimeInfos}

abbrev pub items_of : OtherPrimeInfos → ListRef OtherPrimeInfo
items_of v = v.items.list
