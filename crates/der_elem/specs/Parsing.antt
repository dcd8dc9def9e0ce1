-- The results of parsing octets from the front, in the order of their errors.
use Rattle.std.specs.Prelude.{ℕ, ◌+◌, List, length, take, drop, nat_lt, if◌then◌else◌, Some, Result, Ok, Err}
use Rattle.der_tlv.specs.declared.error.ErrorKind.{ErrorKind}
use Rattle.der_tlv.specs.declared.error.ErrorKind.TheVariants.{TagUnexpected}
use Rattle.der_tlv.specs.declared.encoding_rules.EncodingRules.{EncodingRules}
use Rattle.der_tlv.specs.declared.header.Header.{Header}
use Rattle.der_tlv.specs.declared.tag.Tag.{Tag}
use Rattle.der_tlv.specs.Identifier.{same_identifier}
use Rattle.der_tlv.specs.HeaderOctets.{tlv}
use Rattle.der_tlv.specs.HeaderReading.{read_header}
use Rattle.der_tlv.specs.ReaderState.{read_fault_at}

-- Under rules, at a position, with these octets left: the number of octets of the first value and its encoding, or the first error.
abbrev pub Parse : Type 0
Parse = EncodingRules → ℕ → List ℕ → Result (ℕ × List ℕ) ErrorKind

-- For contents octets as a whole: the contents octets of the value that they are read as, or the first error.
abbrev pub ContentsParse : Type 0
ContentsParse = EncodingRules → ℕ → List ℕ → Result (List ℕ) ErrorKind

abbrev pub tagged_contents : Tag → ℕ → Result (List ℕ) ErrorKind → Result (ℕ × List ℕ) ErrorKind
tagged_contents t n (Ok contents) = Ok (n, tlv t contents)
tagged_contents t n (Err k) = Err k

-- the contents octets, which are the first n of those left
abbrev pub parse_contents : Tag → ContentsParse → EncodingRules → ℕ → ℕ → ℕ → List ℕ → Result (ℕ × List ℕ) ErrorKind
parse_contents t parse rules count p n octets =
    if nat_lt (length octets) n then Err (read_fault_at p n (length octets)) else tagged_contents t (count + n) (parse rules p (take n octets))

-- an encoding with this tag, after its header is parsed
abbrev pub parse_with_tag : Tag → ContentsParse → EncodingRules → ℕ → List ℕ → Result (ℕ × Header) ErrorKind → Result (ℕ × List ℕ) ErrorKind
parse_with_tag t parse rules p octets (Err k) = Err k
parse_with_tag t parse rules p octets (Ok (count, h)) =
    if same_identifier h.tag t then parse_contents t parse rules count (p + count) h.length (drop count octets)
    else Err (TagUnexpected (Some t) h.tag)

-- An encoding with this tag: the header's errors, another tag (4), contents longer than what is left (2, 9), the contents' errors.
unfoldable pub parse_tagged : Tag → ContentsParse → Parse
parse_tagged t parse rules p octets = parse_with_tag t parse rules p octets (read_header p octets)
