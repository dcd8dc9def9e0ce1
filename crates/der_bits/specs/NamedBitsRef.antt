-- The value of a NamedBitsRef that a caller sees, and the contents octets that are read as one.
use Rattle.std.specs.Prelude.{◌≡◌, ℕ, List, Result, Ok, Err}
use Rattle.der_tlv.specs.declared.error.ErrorKind.{ErrorKind}
use Rattle.der_bits.specs.BitStringRef as borrowed
use Rattle.der_bits.specs.NamedBits.{named_bits_or_fault}
use Rattle.der_bits.specs.declared.named_bits.NamedBitsRef.{NamedBitsRef}

-- its contents octets: the number of unused bits of the last octet, then the octets of the bits
abbrev pub contents_of : NamedBitsRef → List ℕ
contents_of named = borrowed.contents_of named.string

-- bits with these contents octets, or their first error
abbrev pub ParsedAsNamed : List ℕ → Result NamedBitsRef ErrorKind → Type 0
ParsedAsNamed octets (Ok v) = (contents_of v ≡ octets) × (named_bits_or_fault octets ≡ Ok octets)
ParsedAsNamed octets (Err kind) = named_bits_or_fault octets ≡ Err kind
