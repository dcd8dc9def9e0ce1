-- Public keys that are built: for Ed25519 (RFC 8410), P-256 (RFC 5480) and RSA (RFC 3279 section 2.3.1).
use Rattle.std.specs.Prelude.{◌≡◌, ◌⊎◌, ◌≤◌, ◌^◌, ◌==◌, ◌&&◌, ◌||◌, ℕ, List, [], ◌∷◌, length, Bool, false}
use Rattle.der_tlv.specs.declared.error.ErrorKind.{ErrorKind}
use Rattle.der_tlv.specs.declared.error.ErrorKind.TheVariants as kinds
use Rattle.der_tlv.specs.declared.tag.Tag.TheVariants as tags
use Rattle.der_tlv.specs.HeaderOctets.{tlv}
use Rattle.der_elem.specs.Encoding.{NoVector}
use Rattle.der_elem.specs.Integer.{big_endian_number, natural_contents}
use Rattle.der_numbers.specs.AnyLength.{without_sign_octet}
use Rattle.der_modules.specs.Asn1.{joined}

-- id-Ed25519: 1.3.101.112 (RFC 8410 section 3)
abbrev pub id_ed25519 : List ℕ
id_ed25519 = 43 ∷ 101 ∷ 112 ∷ []

-- id-ecPublicKey: 1.2.840.10045.2.1 (RFC 5480 section 2.1.1)
abbrev pub id_ec_public_key : List ℕ
id_ec_public_key = 42 ∷ 134 ∷ 72 ∷ 206 ∷ 61 ∷ 2 ∷ 1 ∷ []

-- secp256r1: 1.2.840.10045.3.1.7 (RFC 5480 section 2.1.1.1)
abbrev pub secp256r1 : List ℕ
secp256r1 = 42 ∷ 134 ∷ 72 ∷ 206 ∷ 61 ∷ 3 ∷ 1 ∷ 7 ∷ []

-- rsaEncryption: 1.2.840.113549.1.1.1 (RFC 3279 section 2.3.1)
abbrev pub rsa_encryption : List ℕ
rsa_encryption = 42 ∷ 134 ∷ 72 ∷ 134 ∷ 247 ∷ 13 ∷ 1 ∷ 1 ∷ 1 ∷ []

-- SubjectPublicKeyInfo: an algorithm, the encoding of its parameters or no octets, and the octets of the key as a BIT STRING with no unused bits (RFC 5280 section 4.1.2.7)
abbrev pub key_info_octets : List ℕ → List ℕ → List ℕ → List ℕ
key_info_octets algorithm parameters key =
    tlv tags.Sequence (joined (tlv tags.Sequence (joined (tlv tags.ObjectIdentifier algorithm ∷ parameters ∷ [])) ∷ tlv tags.BitString (0 ∷ key) ∷ []))

-- an Ed25519 key: no parameters, and 32 octets (RFC 8410 sections 3 and 4)
abbrev pub ed25519_octets : List ℕ → List ℕ
ed25519_octets key = key_info_octets id_ed25519 [] key

-- a P-256 key: the curve by its name (RFC 5480 section 2.1.1), and a point
abbrev pub p256_octets : List ℕ → List ℕ
p256_octets point = key_info_octets id_ec_public_key (tlv tags.ObjectIdentifier secp256r1) point

-- an RSA key: NULL, and the encoding of an RSAPublicKey (RFC 3279 section 2.3.1)
abbrev pub rsa_octets : List ℕ → List ℕ
rsa_octets key = key_info_octets rsa_encryption (tlv tags.Null []) key

-- RSAPublicKey: n and e, from these octets, most significant first (RFC 3279 section 2.3.1)
abbrev pub rsa_public_key_octets : List ℕ → List ℕ → List ℕ
rsa_public_key_octets modulus exponent =
    tlv tags.Sequence (joined (tlv tags.Integer (natural_contents (big_endian_number modulus)) ∷ tlv tags.Integer (natural_contents (big_endian_number exponent)) ∷ []))

-- whether a point is 04 and two coordinates of 32 octets, or 02 or 03 and one (SEC 1 section 2.3.3; RFC 5480 section 2.2)
abbrev pub is_p256_point : List ℕ → Bool
is_p256_point [] = false
is_p256_point (form ∷ others) =
    ((form == 4) && (length others == 64)) || (((form == 2) || (form == 3)) && (length others == 32))

-- no octets, or more than a length can count without leading zeros
abbrev pub IsNoNumber : List ℕ → Type 0
IsNoNumber octets = (octets ≡ []) ⊎ (2 ^ 32 ≤ length (without_sign_octet (natural_contents (big_endian_number octets))))

-- the reason why there is no RSAPublicKey: a number that cannot be kept (7), or an encoding that cannot be written to memory
abbrev pub RefusesRsaPublicKey : List ℕ → List ℕ → ErrorKind → Type 0
RefusesRsaPublicKey modulus exponent kind =
    ((kind ≡ kinds.Length tags.Integer) × (IsNoNumber modulus ⊎ IsNoNumber exponent))
    ⊎ NoVector (rsa_public_key_octets modulus exponent) false kind
