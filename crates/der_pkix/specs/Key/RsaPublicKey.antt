-- The fields of RSAPublicKey, by their names.
-- Made by tools/asn1 from key.asn1.
use Rattle.der_numbers.specs.declared.uint_ref.UintRef.{UintRef}
use Rattle.der_pkix.specs.declared.key.rsa_public_key.RsaPublicKey.{RsaPublicKey}

-- modulus INTEGER (0..MAX)
abbrev pub modulus : RsaPublicKey → UintRef
modulus v = v.fields.list.first

-- publicExponent INTEGER (0..MAX)
abbrev pub public_exponent : RsaPublicKey → UintRef
public_exponent v = v.fields.list.rest.first
