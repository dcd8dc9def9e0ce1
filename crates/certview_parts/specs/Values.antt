-- Successive values in octets, by their headers.
use Rattle.std.specs.Prelude.{ℕ, ◌+◌, ◌^◌, List, length, take, drop, nat_lt, if◌then◌else◌, Result, Ok, Err}
use Rattle.der_asn1_types.specs.ErrorKind.{ErrorKind}
use Rattle.der_asn1_types.specs.Header.{Header}
use Rattle.der_asn1_types.specs.HeaderReading.{read_header}

-- the second number, but at most the first
abbrev pub at_most : ℕ → ℕ → ℕ
at_most most count = if nat_lt most count then most else count

-- the octets of a header and of the whole value, where this many octets are left
abbrev pub sizes_by : ℕ → Result (ℕ × Header) ErrorKind → ℕ × ℕ
sizes_by most (Ok (count, header)) = (at_most most count, at_most most (count + header.length))
sizes_by most (Err kind) = (0, 0)

-- The number of octets of the first value's header and of the whole value, as far as they are present: zeros if no header can be read,
-- or if no length can express the number of octets.
abbrev pub sizes : List ℕ → ℕ × ℕ
sizes octets = if nat_lt (length octets) (2 ^ 32) then sizes_by (length octets) (read_header 0 octets) else (0, 0)

-- the octets after the first header: the first value's contents, and what follows
abbrev pub after_header : List ℕ → List ℕ
after_header octets = drop (sizes octets).0 octets

-- the octets after the first value
abbrev pub after_value : List ℕ → List ℕ
after_value octets = drop (sizes octets).1 octets

-- the contents octets of the first value
abbrev pub contents : List ℕ → List ℕ
contents octets = after_header (take (sizes octets).1 octets)
