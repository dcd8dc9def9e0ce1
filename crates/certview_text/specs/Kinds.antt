-- The kind of message in octets, by the tags of its fields.
use Rattle.std.specs.Prelude.{ℕ, List, [], ◌∷◌, Bool, false, not, ◌==◌, ◌||◌, ◌&&◌, if◌then◌else◌}
use Rattle.certview_text.specs.declared.kind.Kind.{Kind}
use Rattle.certview_text.specs.declared.kind.Kind.TheVariants.{Certificate, RevocationList, PublicKey, PrivateKey, RsaPrivateKey, RsaPublicKey, EcPrivateKey, DsaPrivateKey, CertificationRequest, EncryptedPrivateKey, OcspRequest, OcspResponse, Cms, TimeStampQuery, TimeStampReply, Pkcs12, EcParameters, DsaParameters, X942Parameters}
use Rattle.certview_parts.specs.Values.{after_header, after_value, contents}

-- whether the first value has this identifier octet
abbrev pub has_tag : ℕ → List ℕ → Bool
has_tag tag [] = false
has_tag tag (octet ∷ others) = octet == tag

-- the octets after the first header; the length octet of an indefinite length is 80 hexadecimal (X.690 8.1.3.6)
abbrev pub fields_of : List ℕ → List ℕ
fields_of [] = after_header []
fields_of (tag ∷ []) = after_header (tag ∷ [])
fields_of (tag ∷ (octet ∷ fields)) = if octet == 128 then fields else after_header (tag ∷ (octet ∷ fields))

-- the contents octets of the first value; if its length is indefinite, all octets after its header
abbrev pub fields_within : List ℕ → List ℕ
fields_within [] = contents []
fields_within (tag ∷ []) = contents (tag ∷ [])
fields_within (tag ∷ (octet ∷ fields)) = if octet == 128 then fields else contents (tag ∷ (octet ∷ fields))

-- whether octets begin as a message: with a SEQUENCE (30 hexadecimal), or as ECParameters that are a name (6) or NULL (5)
abbrev pub begins_message : List ℕ → Bool
begins_message octets = has_tag 48 octets || has_tag 6 octets || has_tag 5 octets

-- a UTCTime (17 hexadecimal) or a GeneralizedTime (18)
abbrev pub has_time_tag : List ℕ → Bool
has_time_tag octets = has_tag 23 octets || has_tag 24 octets

-- Decides by the signed fields. The third field (with no version) or the fourth of a list of revoked certificates is a time.
-- The fourth field of a CertificationRequestInfo is its attributes, [0]. In a certificate the times begin in the fourth field at the
-- earliest, within a SEQUENCE.
abbrev pub signed_kind : List ℕ → Kind
signed_kind fields =
    if has_time_tag (after_value (after_value fields)) || has_time_tag (after_value (after_value (after_value fields))) then RevocationList
    else (if has_tag 160 (after_value (after_value (after_value fields))) then CertificationRequest else Certificate)

-- the octets after the first value if it has this tag, otherwise all of them
abbrev pub without : ℕ → List ℕ → List ℕ
without tag octets = if has_tag tag octets then after_value octets else octets

-- The fields of a TBSRequest: a version [0] and a name [1] if they are present, and a SEQUENCE that is no AlgorithmIdentifier. The first
-- field of a list of revoked certificates with no version is an AlgorithmIdentifier.
abbrev pub has_requests : List ℕ → Bool
has_requests fields =
    let requests = without 161 (without 160 fields)
    in has_tag 48 requests && not (has_tag 6 (contents requests))

-- The fields of a PKIStatusInfo: an INTEGER first, and no SEQUENCE third. Each INTEGER among the first signed fields precedes two
-- SEQUENCEs.
abbrev pub has_status : List ℕ → Bool
has_status fields = has_tag 2 fields && not (has_tag 48 (after_value (after_value fields)))

-- Decides by the fields of a first SEQUENCE and by the fields after it. A BIT STRING after it is the second field of a SubjectPublicKeyInfo;
-- an OCTET STRING after it is that of an EncryptedPrivateKeyInfo; otherwise the fields within decide.
abbrev pub sequence_kind : List ℕ → List ℕ → Kind
sequence_kind fields others =
    if has_tag 3 others then PublicKey
    else (if has_tag 4 others then EncryptedPrivateKey
    else (if has_status fields then TimeStampReply
    else (if has_requests fields then OcspRequest else signed_kind fields)))

-- Decides by the fields after a first INTEGER, where a SEQUENCE is the next one. An OCTET STRING after it is the key of a PrivateKeyInfo; a
-- SEQUENCE first in it is the algorithm of a time stamp query's digest; [0] second in it is the content of a PFX; a SEQUENCE after it is the
-- curve of ECParameters.
abbrev pub structure_kind : List ℕ → Kind
structure_kind others =
    if has_tag 4 (after_value others) then PrivateKey
    else (if has_tag 48 (fields_within others) then TimeStampQuery
    else (if has_tag 160 (after_value (fields_within others)) then Pkcs12
    else (if has_tag 48 (after_value others) then EcParameters else PrivateKey)))

-- Decides by the fields after five INTEGERs. If there is one more and no other, it is the last of a DSA private key; otherwise they are those of an RSAPrivateKey.
abbrev pub primes_kind : List ℕ → Kind
primes_kind others =
    if has_tag 2 others && not (has_tag 2 (after_value others)) then DsaPrivateKey else RsaPrivateKey

-- Decides by the fields after three INTEGERs. Two more are those of a private key; one more, or a SEQUENCE, belongs to the
-- Diffie-Hellman parameters of X9.42; with nothing more, the three are the parameters of DSA.
abbrev pub numbers_kind : List ℕ → Kind
numbers_kind others =
    if has_tag 2 others then (if has_tag 2 (after_value others) then primes_kind (after_value (after_value others)) else X942Parameters)
    else (if has_tag 48 others then X942Parameters else DsaParameters)

-- Decides by the fields after a first INTEGER: a SEQUENCE; an OCTET STRING, which is the key of an ECPrivateKey; one INTEGER, which is the
-- exponent of an RSAPublicKey; or more.
abbrev pub key_kind : List ℕ → Kind
key_kind others =
    if has_tag 48 others then structure_kind others
    else (if has_tag 4 others then EcPrivateKey
    else (if has_tag 2 (after_value others) then numbers_kind (after_value (after_value others)) else RsaPublicKey))

-- Decides by the fields of a SEQUENCE: an INTEGER first; an OBJECT IDENTIFIER, which is the type of a CMS message; an ENUMERATED, which is
-- the status of an OCSP response; or a SEQUENCE.
abbrev pub kind_of_fields : List ℕ → Kind
kind_of_fields fields =
    if has_tag 2 fields then key_kind (after_value fields)
    else (if has_tag 6 fields then Cms
    else (if has_tag 10 fields then OcspResponse else sequence_kind (fields_within fields) (after_value fields)))

-- The kind of message in octets: ECParameters that are a name or NULL, or else the kind by the fields of a SEQUENCE.
abbrev pub kind_of : List ℕ → Kind
kind_of octets =
    if has_tag 6 octets || has_tag 5 octets then EcParameters else kind_of_fields (fields_of octets)
