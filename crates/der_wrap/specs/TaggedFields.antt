-- The results of decoding fields that may be absent.
use Rattle.std.specs.Prelude.{◌≡◌, ◌⊎◌, ℕ, List, take, Bool, true, false, ◌&&◌, Option, None, Result, Ok, Err}
use Rattle.der_tlv.specs.declared.error.ErrorKind.{ErrorKind}
use Rattle.der_tlv.specs.declared.error.ErrorKind.TheVariants.{TagUnexpected}
use Rattle.der_tlv.specs.declared.error.Error.{Error}
use Rattle.der_tlv.specs.declared.encoding_rules.EncodingRules.{EncodingRules}
use Rattle.der_tlv.specs.declared.encoding_rules.EncodingRules.TheVariants.{Der}
use Rattle.der_tlv.specs.ReaderState.{ReaderState, after_read, rest, unless_failed}
use Rattle.der_tlv.specs.Reading.{Refused}
use Rattle.der_elem.specs.Parsing.{Parse}
use Rattle.der_elem.specs.Options.{encoding_option, accepts_option}
use Rattle.der_elem.specs.Decoding.{RanOut, Faults, AllRead, NotAllRead}
use Rattle.der_tlv.specs.declared.tag.Tag.{Tag}
use Rattle.der_tlv.specs.declared.tag.mode.TagMode.TheVariants.{Explicit, Implicit}
use Rattle.der_tlv.specs.TagParts.{is_constructed}
use Rattle.der_tlv.specs.HeaderOctets.{tlv}
use Rattle.der_elem.specs.declared.form.Form as form
use Rattle.der_elem.specs.ContentsFormat.{ContentsFormat}
use Rattle.der_wrap.specs.declared.tagged_value.TaggedValue.{TaggedValue}
use Rattle.der_wrap.specs.ClassTags.{class_tag, in_class}
use Rattle.der_wrap.specs.TaggedValues.{parse_optional_field, parse_explicit, parse_implicit, AcceptsExplicit, AcceptsImplicit}

-- a field was decoded, or found absent: the number of octets that it took, their parse, and the reader after them
pub record OptionalFieldDecoded {W : Type 0} (parse : Parse) (encoding : W → List ℕ) (accepts : EncodingRules → W → List ℕ → Type 0) (old new : ReaderState) (field : Option W) : Type 0 where
  pub taken : ℕ
  pub ready : old.failed ≡ false
  pub parsed : parse old.rules old.position (rest old) ≡ Ok (taken, encoding_option encoding field)
  pub accepted : accepts_option (accepts old.rules) field (take taken (rest old))
  pub after : new ≡ after_read old taken

-- no field was decoded: the reason, and the state of the reader
pub record OptionalFieldNotDecoded (takes_memory faults_first : Bool) (parse : Parse) (old new : ReaderState) (kind : ErrorKind) : Type 0 where
  pub reason : Faults takes_memory faults_first (unless_failed (parse old.rules) old) kind
  pub reader : Refused old new kind

-- the results of decoding a field that may be absent
abbrev pub DecodesOptionalField : {W : Type 0} → Bool → Bool → Parse → (W → List ℕ) → (EncodingRules → W → List ℕ → Type 0) → ReaderState → ReaderState → Result (Option W) Error → Type 0
DecodesOptionalField takes_memory faults_first parse encoding accepts old new (Ok field) = OptionalFieldDecoded parse encoding accepts old new field
DecodesOptionalField takes_memory faults_first parse encoding accepts old new (Err e) = OptionalFieldNotDecoded takes_memory faults_first parse old new e.kind

-- the results for explicit tagging with a class and a number: octets left over after the value are found after it is read
abbrev pub DecodesExplicit : {T : Type 0} → form.Ghosts T → (bits n : ℕ) → ReaderState → ReaderState → Result (Option (TaggedValue T bits)) Error → Type 0
DecodesExplicit {T} F bits n old new result =
    DecodesOptionalField F.TAKES_MEMORY false (parse_optional_field bits n (parse_explicit bits F.parse)) (λ (w : TaggedValue T bits). tlv (class_tag bits true n) (F.encoding w.value)) (λ rules w octets. (w.tag_number.0 ≡ n) × AcceptsExplicit F.accepts bits n w.tag_mode w.value rules octets) old new result

-- the results for implicit tagging of a type whose own encodings are constructed or not
abbrev pub DecodesImplicit : {T : Type 0} → ContentsFormat T → (own : Bool) (bits n : ℕ) → ReaderState → ReaderState → Result (Option (TaggedValue T bits)) Error → Type 0
DecodesImplicit {T} F own bits n old new result =
    DecodesOptionalField F.TAKES_MEMORY F.FAULTS_FIRST (parse_optional_field bits n (parse_implicit (class_tag bits own n) own F.parse)) (λ (w : TaggedValue T bits). tlv (class_tag bits own n) (F.contents w.value)) (λ rules w octets. (w.tag_number.0 ≡ n) × (w.tag_mode ≡ Implicit) × AcceptsImplicit F.accepts bits n own w.value rules octets) old new result

-- The results of reading an encoding with any tag under explicit tagging: (4) with no expected tag unless it is constructed and of the class, else the result of reading its contents octets.
abbrev pub ReadsAny : {T : Type 0} → form.Ghosts T → (bits : ℕ) → Tag → List ℕ → Result (TaggedValue T bits) Error → Type 0
ReadsAny F bits t octets (Ok w) = (t ≡ class_tag bits true w.tag_number.0) × (w.tag_mode ≡ Explicit) × AllRead F octets w.value
ReadsAny F bits t octets (Err e) =
    (((is_constructed t && in_class bits t) ≡ false) × (e.kind ≡ TagUnexpected None t)) ⊎ (((is_constructed t && in_class bits t) ≡ true) × (RanOut F.TAKES_MEMORY F.FAULTS_FIRST (F.parse Der 0 octets) e.kind ⊎ NotAllRead F octets e.kind))
