-- Headers and whole encodings (X.690 8.1.1).
use Rattle.std.specs.Prelude.{ℕ, List, ◌++◌, length}
use Rattle.der_tlv.specs.declared.tag.Tag.{Tag}
use Rattle.der_tlv.specs.Identifier.{identifier}
use Rattle.der_tlv.specs.LengthOctets.{length_octets}

-- the identifier octets of a tag, and the length octets of n contents octets
abbrev pub header_octets : Tag → ℕ → List ℕ
header_octets t n = identifier t ++ length_octets n

-- a whole encoding: identifier octets, length octets, contents octets
abbrev pub tlv : Tag → List ℕ → List ℕ
tlv t contents = header_octets t (length contents) ++ contents
