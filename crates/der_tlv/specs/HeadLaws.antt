-- Laws of length octets and headers, and of reading them.
use Rattle.std.specs.Prelude.{◌≡◌, ℕ, ◌^◌, ◌<◌, ◌≤◌, List, ◌++◌, length, Ok}
use Rattle.der_tlv.specs.declared.tag.Tag.{Tag}
use Rattle.der_tlv.specs.TagParts.{IsTag}
use Rattle.der_tlv.specs.LengthOctets.{length_octets}
use Rattle.der_tlv.specs.HeaderOctets.{header_octets}
use Rattle.der_tlv.specs.HeaderReading.{read_length, read_header, header}

-- no length octets are a prefix of those of another length
abbrev pub LengthsAreUnique : Type 0
LengthsAreUnique = (m n : ℕ) (x y : List ℕ) → length_octets m ++ x ≡ length_octets n ++ y → (m ≡ n) × (x ≡ y)

-- reading the length octets of a length gives that length, whatever follows
abbrev pub LengthsReadBack : Type 0
LengthsReadBack = (n p : ℕ) (x : List ℕ) → n < 2 ^ 32 → read_length p (length_octets n ++ x) ≡ Ok (length (length_octets n), n)

-- a length has one to five length octets
abbrev pub LengthsAreShort : Type 0
LengthsAreShort = (n : ℕ) → n < 2 ^ 32 → (0 < length (length_octets n)) × (length (length_octets n) ≤ 5)

-- no header is a prefix of another
abbrev pub HeadersAreUnique : Type 0
HeadersAreUnique = (t u : Tag) (m n : ℕ) (x y : List ℕ) → header_octets t m ++ x ≡ header_octets u n ++ y → (t ≡ u) × (m ≡ n) × (x ≡ y)

-- reading the octets of a header gives that header, whatever follows
abbrev pub HeadersReadBack : Type 0
HeadersReadBack = (t : Tag) (n p : ℕ) (x : List ℕ) → IsTag t → n < 2 ^ 32 → read_header p (header_octets t n ++ x) ≡ Ok (length (header_octets t n), header t n)
