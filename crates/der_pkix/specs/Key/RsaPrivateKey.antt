-- The fields of RSAPrivateKey, by their names.
-- Made by tools/asn1 from key.asn1.
use Rattle.std.specs.Prelude.{Option, ℕ}
use Rattle.der_numbers.specs.declared.uint_ref.UintRef.{UintRef}
use Rattle.der_pkix.specs.declared.key.other_prime_infos.OtherPrimeInfos.{OtherPrimeInfos}
use Rattle.der_pkix.specs.declared.key.rsa_private_key.RsaPrivateKey.{RsaPrivateKey}

-- version INTEGER { two-prime (0), multi (1) }
abbrev pub version : RsaPrivateKey → ℕ
version v = v.fields.list.first

-- modulus INTEGER (0..MAX)
abbrev pub modulus : RsaPrivateKey → UintRef
modulus v = v.fields.list.rest.first

-- publicExponent INTEGER (0..MAX)
abbrev pub public_exponent : RsaPrivateKey → UintRef
public_exponent v = v.fields.list.rest.rest.first

-- privateExponent INTEGER (0..MAX)
abbrev pub private_exponent : RsaPrivateKey → UintRef
private_exponent v = v.fields.list.rest.rest.rest.first

-- prime1 INTEGER (0..MAX)
abbrev pub prime1 : RsaPrivateKey → UintRef
prime1 v = v.fields.list.rest.rest.rest.rest.first

-- prime2 INTEGER (0..MAX)
abbrev pub prime2 : RsaPrivateKey → UintRef
prime2 v = v.fields.list.rest.rest.rest.rest.rest.first

-- exponent1 INTEGER (0..MAX)
abbrev pub exponent1 : RsaPrivateKey → UintRef
exponent1 v = v.fields.list.rest.rest.rest.rest.rest.rest.first

-- exponent2 INTEGER (0..MAX)
abbrev pub exponent2 : RsaPrivateKey → UintRef
exponent2 v = v.fields.list.rest.rest.rest.rest.rest.rest.rest.first

-- coefficient INTEGER (0..MAX)
abbrev pub coefficient : RsaPrivateKey → UintRef
coefficient v = v.fields.list.rest.rest.rest.rest.rest.rest.rest.rest.list.first

-- otherPrimeInfos OtherPrimeInfos OPTIONAL
abbrev pub other_prime_infos : RsaPrivateKey → Option OtherPrimeInfos
other_prime_infos v = v.fields.list.rest.rest.rest.rest.rest.rest.rest.rest.list.rest.first
