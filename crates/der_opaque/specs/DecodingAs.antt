-- The result of decoding kept contents octets as a type.
use Rattle.std.specs.Prelude.{◌≡◌, ℕ, List, Bool, true, if◌then◌else◌, None, ◌⊎◌, Result, Ok, Err}
use Rattle.der_tlv.specs.declared.error.ErrorKind.{ErrorKind}
use Rattle.der_tlv.specs.declared.error.ErrorKind.TheVariants.{TagUnexpected}
use Rattle.der_tlv.specs.declared.error.Error.{Error}
use Rattle.der_tlv.specs.declared.encoding_rules.EncodingRules.{EncodingRules}
use Rattle.der_tlv.specs.declared.encoding_rules.EncodingRules.TheVariants.{Der}
use Rattle.der_tlv.specs.declared.tag.Tag.{Tag}
use Rattle.der_tlv.specs.Identifier.{same_identifier}
use Rattle.der_elem.specs.ContentsFormat.{ContentsFormat}
use Rattle.der_elem.specs.declared.form.Form as form
use Rattle.der_elem.specs.Parsing.{ContentsParse}
use Rattle.der_elem.specs.Decoding.{RanOut}
use Rattle.der_elem.specs.OwnContents.{accepts_within}

-- The result for octets after a tag: (4) with no expected tag for a tag that is none of these, else the result of parsing the contents octets.
abbrev pub parse_as : (Tag → Bool) → ContentsParse → EncodingRules → Tag → List ℕ → Result (List ℕ) ErrorKind
parse_as tags parse rules t octets = if tags t then parse rules 0 octets else Err (TagUnexpected None t)

-- all of the octets were read as the contents octets of a value that may have the tag
pub record DecodedAs {T : Type 0} (C : form.Ghosts T) (F : ContentsFormat T) (rules : EncodingRules) (t : Tag) (octets : List ℕ) (v : T) : Type 0 where
  pub allowed : C.tags t ≡ true
  pub parsed : F.parse rules 0 octets ≡ Ok (F.contents v)
  pub accepted : F.accepts rules v octets
  pub tag : F.has_tag v t

-- the first error; no value of the type has the tag and these contents octets
pub record NotDecodedAs {T : Type 0} (C : form.Ghosts T) (F : ContentsFormat T) (rules : EncodingRules) (t : Tag) (octets : List ℕ) (kind : ErrorKind) : Type 0 where
  pub fault : parse_as C.tags F.parse rules t octets ≡ Err kind
  pub nothing : C.tags t ≡ true → (w : T) → F.accepts rules w octets → ⊥

-- the result of decoding contents octets after a tag: the value, or (1) if the type may have the tag and memory ran out, or the first error
abbrev pub DecodesAs : {T : Type 0} → form.Ghosts T → ContentsFormat T → EncodingRules → Tag → List ℕ → Result T Error → Type 0
DecodesAs C F rules t octets (Ok v) = DecodedAs C F rules t octets v
DecodesAs C F rules t octets (Err e) = ((C.tags t ≡ true) × RanOut F.TAKES_MEMORY F.FAULTS_FIRST (F.parse rules 0 octets) e.kind) ⊎ NotDecodedAs C F rules t octets e.kind

-- the value under DER, for a type with one tag whose values within a range are read only from their own contents octets
pub record OwnDecodedAs {T : Type 0} (own : Tag) (contents : T → List ℕ) (Within : T → Type 0) (parse : ContentsParse) (t : Tag) (octets : List ℕ) (v : T) : Type 0 where
  pub allowed : same_identifier t own ≡ true
  pub parsed : parse Der 0 octets ≡ Ok (contents v)
  pub accepted : accepts_within contents Within Der v octets

-- the first error; no value within the range has the tag and these contents octets
pub record OwnNotDecodedAs {T : Type 0} (own : Tag) (contents : T → List ℕ) (Within : T → Type 0) (parse : ContentsParse) (t : Tag) (octets : List ℕ) (kind : ErrorKind) : Type 0 where
  pub fault : parse_as (λ u. same_identifier u own) parse Der t octets ≡ Err kind
  pub nothing : same_identifier t own ≡ true → (w : T) → accepts_within contents Within Der w octets → ⊥

-- the result of decoding contents octets as such a type, without memory: the value, or the first error
abbrev pub DecodesOwnAs : {T : Type 0} → Tag → (T → List ℕ) → (T → Type 0) → ContentsParse → Tag → List ℕ → Result T Error → Type 0
DecodesOwnAs own contents Within parse t octets (Ok v) = OwnDecodedAs own contents Within parse t octets v
DecodesOwnAs own contents Within parse t octets (Err e) = OwnNotDecodedAs own contents Within parse t octets e.kind
