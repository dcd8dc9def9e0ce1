-- The first error in octets as a whole.
use Rattle.std.specs.Prelude.{List, ℕ, Option, None, Some, Result, Ok, Err}
use Rattle.der_asn1_types.specs.ErrorKind.{ErrorKind}
use Rattle.der_asn1_types.specs.Decoding.{parse_all}
use Rattle.der_asn1_types.specs.Parsing.{Parse}

-- the error, if there is one
abbrev pub fault_of : Result (List ℕ) ErrorKind → Option ErrorKind
fault_of (Ok encoding) = None
fault_of (Err kind) = Some kind

-- The first error in octets that are to be one value, under DER: too many octets (9), an error in the value, octets left over (3).
-- There is none if the grammar reads a value from exactly these octets.
abbrev pub first_fault : Parse → List ℕ → Option ErrorKind
first_fault parse octets = fault_of (parse_all parse octets)
