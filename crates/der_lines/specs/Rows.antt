-- The row of a table for a type.
use Rattle.std.specs.Prelude.{ℕ, Bool, true, false, List, Result}
use Rattle.der_tlv.specs.declared.error.ErrorKind.{ErrorKind}
use Rattle.der_tlv.specs.declared.tag.Tag.{Tag}
use Rattle.der_elem.specs.declared.form.Form as form
use Rattle.der_elem.specs.Decoding.{parse_all}
use Rattle.der_elem.specs.Parsing.{Parse, ContentsParse, parse_tagged}

-- when reading takes memory: never, after every error of the value is found, or between the octets
pub data Taking : Type 0 where
  never : Taking
  at_last : Taking
  between : Taking

-- when reading takes memory, by two constants of a type: whether it takes memory, and whether it finds every error first
abbrev pub taking : Bool → Bool → Taking
taking false first = never
taking true true = at_last
taking true false = between

-- the parse of octets from the front as one type, and when reading it takes memory
pub record Row : Type 0 where
  pub parse : Parse
  pub memory : Taking

-- the row of a type from its `Form`
abbrev pub row_of : {T : Type 0} → form.Ghosts T → Row
row_of F = record { parse = F.parse; memory = taking F.TAKES_MEMORY F.FAULTS_FIRST }

-- the row of a type with this parse
abbrev pub parsed : Taking → Parse → Row
parsed memory parse = record { parse = parse; memory = memory }

-- the row of a type with one tag
abbrev pub tagged : Taking → Tag → ContentsParse → Row
tagged memory tag parse = parsed memory (parse_tagged tag parse)

-- the canonical encoding of the value of the type that the octets encode, or the first error
abbrev pub canonical : Row → List ℕ → Result (List ℕ) ErrorKind
canonical row octets = parse_all row.parse octets
