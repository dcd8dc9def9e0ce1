-- The fields of OtherPrimeInfo, by their names.
-- Made by tools/asn1 from key.asn1.
use Rattle.der_numbers.specs.declared.uint_ref.UintRef.{UintRef}
use Rattle.der_pkix.specs.declared.key.other_prime_info.OtherPrimeInfo.{OtherPrimeInfo}

-- prime INTEGER (0..MAX)
abbrev pub prime : OtherPrimeInfo → UintRef
prime v = v.fields.list.first

-- exponent INTEGER (0..MAX)
abbrev pub exponent : OtherPrimeInfo → UintRef
exponent v = v.fields.list.rest.first

-- coefficient INTEGER (0..MAX)
abbrev pub coefficient : OtherPrimeInfo → UintRef
coefficient v = v.fields.list.rest.rest.first
