-- The results of writing a canonical encoding.
use Rattle.std.specs.Prelude.{◌≡◌, ◌⊎◌, ℕ, List, Result, Ok, Err, IsOk}
use Rattle.der_tlv.specs.declared.encoding_rules.EncodingRules.TheVariants.{Der}
use Rattle.der_tlv.specs.declared.error.Error.{Error}
use Rattle.der_tlv.specs.declared.error.ErrorKind.{ErrorKind}
use Rattle.der_tlv.specs.declared.error.ErrorKind.TheVariants.{Memory}
use Rattle.der_elem.specs.Decoding.{parse_all}
use Rattle.der_elem.specs.Parsing.{Parse}
use Rattle.der_lines.specs.Rows.{Row, Taking, never, at_last, between, canonical}

-- The octets for which memory may run out: if reading takes none, those of a value; if it takes memory last, those that begin
-- with the encoding of a value; else any octets.
abbrev pub MayRunOut : Taking → Parse → List ℕ → Type 0
MayRunOut never parse octets = IsOk (parse_all parse octets)
MayRunOut at_last parse octets = IsOk (parse Der 0 octets)
MayRunOut between parse octets = Unit {0}

-- the reason why nothing is written: memory ran out, or this is the first error
abbrev pub NotPut : Row → List ℕ → ErrorKind → Type 0
NotPut row octets kind = ((kind ≡ Memory) × MayRunOut row.memory row.parse octets) ⊎ (canonical row octets ≡ Err kind)

-- the canonical encoding is written, or there is a reason why not
abbrev pub Puts : Row → List ℕ → List ℕ → Result (Unit {0}) Error → Type 0
Puts row octets encoding (Ok u) = canonical row octets ≡ Ok encoding
Puts row octets encoding (Err error) = NotPut row octets error.kind
