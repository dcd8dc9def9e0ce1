-- The results of the calls that read, and the state of the reader after each.
use Rattle.std.specs.Prelude.{◌≡◌, ℕ, ◌-◌, ◌<◌, ◌^◌, List, length, take, nat_lt, ◌==◌, if◌then◌else◌, Bool, true, false, ◌⊎◌, Result, Ok, Err, IsOk}
use Rattle.der_tlv.specs.declared.error.ErrorKind.{ErrorKind}
use Rattle.der_tlv.specs.declared.error.ErrorKind.TheVariants.{Memory, Overflow, TrailingData}
use Rattle.der_tlv.specs.declared.error.Error.{Error}
use Rattle.der_tlv.specs.declared.header.Header.{Header}
use Rattle.der_tlv.specs.declared.tag.Tag.{Tag}
use Rattle.der_tlv.specs.declared.encoding_rules.EncodingRules.TheVariants.{Der}
use Rattle.der_tlv.specs.HeaderReading.{read_header}
use Rattle.der_tlv.specs.ReaderState.{ReaderState, after_read, rest, unless_failed}
use Rattle.der_tlv.specs.Reading.{Refused}
use Rattle.der_elem.specs.Parsing.{Parse}
use Rattle.der_elem.specs.ContentsFormat.{ContentsFormat}
use Rattle.der_elem.specs.declared.form.Form as form

-- memory ran out (1) for a type that takes memory; if the type finds every error first, the octets have no error
pub record RanOut {A : Type 0} (memory first : Bool) (parsed : Result A ErrorKind) (kind : ErrorKind) : Type 0 where
  pub kind_is : kind ≡ Memory
  pub takes : memory ≡ true
  pub faultless : first ≡ true → IsOk parsed

-- why there is no value: memory ran out, or this is the first error
abbrev pub Faults : {A : Type 0} → Bool → Bool → Result A ErrorKind → ErrorKind → Type 0
Faults memory first parsed kind = RanOut memory first parsed kind ⊎ (parsed ≡ Err kind)

-- the next header has a tag that is none of these
pub record OtherHeader (tags : Tag → Bool) (s : ReaderState) : Type 0 where
  pub count : ℕ
  pub header : Header
  pub is_next : read_header s.position (rest s) ≡ Ok (count, header)
  pub is_other : tags header.tag ≡ false

-- a value was decoded: the number of octets that it took, the result of parsing them, and the reader after them
pub record Decoded {T : Type 0} (F : form.Ghosts T) (old new : ReaderState) (v : T) : Type 0 where
  pub taken : ℕ
  pub ready : old.failed ≡ false
  pub parsed : F.parse old.rules old.position (rest old) ≡ Ok (taken, F.encoding v)
  pub accepted : F.accepts old.rules v (take taken (rest old))
  pub after : new ≡ after_read old taken

-- no value was decoded: why, and the state after it; a tag that the type does not have leaves the end unchanged, too
pub record NotDecoded {T : Type 0} (F : form.Ghosts T) (old new : ReaderState) (kind : ErrorKind) : Type 0 where
  pub reason : Faults F.TAKES_MEMORY F.FAULTS_FIRST (unless_failed (F.parse old.rules) old) kind
  pub reader : Refused old new kind
  pub other_tag : OtherHeader F.tags old → new.end ≡ old.end

-- the result of decoding a value
abbrev pub Decodes : {T : Type 0} → form.Ghosts T → ReaderState → ReaderState → Result T Error → Type 0
Decodes F old new (Ok v) = Decoded F old new v
Decodes F old new (Err e) = NotDecoded F old new e.kind

-- a value was decoded from contents octets
pub record ValueDecoded {T : Type 0} (F : ContentsFormat T) (header : Header) (old new : ReaderState) (v : T) : Type 0 where
  pub ready : old.failed ≡ false
  pub parsed : F.parse old.rules old.position (rest old) ≡ Ok (F.contents v)
  pub accepted : F.accepts old.rules v (rest old)
  pub tag : F.has_tag v header.tag
  pub after : new ≡ after_read old (length (rest old))

-- no value was decoded from contents octets, for this reason
pub record ValueNotDecoded {T : Type 0} (F : ContentsFormat T) (old : ReaderState) (kind : ErrorKind) : Type 0 where
  pub reason : Faults F.TAKES_MEMORY F.FAULTS_FIRST (unless_failed (F.parse old.rules) old) kind

-- the result of decoding contents octets, for a reader that shows as many octets as the header says
abbrev pub DecodesValue : {T : Type 0} → ContentsFormat T → Header → ReaderState → ReaderState → Result T Error → Type 0
DecodesValue F header old new (Ok v) = ValueDecoded F header old new v
DecodesValue F header old new (Err e) = ValueNotDecoded F old e.kind

-- the result for `len` octets, after the first of them were parsed
abbrev pub all_parsed : ℕ → Result (ℕ × List ℕ) ErrorKind → Result (List ℕ) ErrorKind
all_parsed len (Ok (n, encoding)) = if n == len then Ok encoding else Err (TrailingData n (len - n))
all_parsed len (Err k) = Err k

-- The result of parsing octets as a whole, under DER: the encoding of the value that they are read as, or the first error: too many
-- octets (9), the value's errors, octets left over (3).
abbrev pub parse_all : Parse → List ℕ → Result (List ℕ) ErrorKind
parse_all parse octets = if nat_lt (length octets) (2 ^ 32) then all_parsed (length octets) (parse Der 0 octets) else Err Overflow

-- a value was read from all of the octets
pub record AllRead {T : Type 0} (F : form.Ghosts T) (octets : List ℕ) (v : T) : Type 0 where
  pub accepted : F.accepts Der v octets
  pub fits : length octets < 2 ^ 32
  pub parsed : parse_all F.parse octets ≡ Ok (F.encoding v)

-- no value is read from the octets, if their number fits a length, and this is the first error
pub record NotAllRead {T : Type 0} (F : form.Ghosts T) (octets : List ℕ) (kind : ErrorKind) : Type 0 where
  pub fault : parse_all F.parse octets ≡ Err kind
  pub nothing : (w : T) → F.accepts Der w octets → length octets < 2 ^ 32 → ⊥

-- the result of reading all the octets
abbrev pub ReadsAll : {T : Type 0} → form.Ghosts T → List ℕ → Result T Error → Type 0
ReadsAll F octets (Ok v) = AllRead F octets v
ReadsAll F octets (Err e) = RanOut F.TAKES_MEMORY F.FAULTS_FIRST (F.parse Der 0 octets) e.kind ⊎ NotAllRead F octets e.kind

-- the error for octets that are left after a value
abbrev pub left_over : ReaderState → ErrorKind
left_over s = TrailingData s.position (length (rest s))
