-- Types whose values are each read from their own contents octets and from no others, under all rules.
use Rattle.std.specs.Prelude.{◌≡◌, ℕ, List, length, false, Result, Ok, Err}
use Rattle.der_tlv.specs.declared.encoding_rules.EncodingRules.{EncodingRules}
use Rattle.der_tlv.specs.declared.error.ErrorKind.{ErrorKind}
use Rattle.der_tlv.specs.declared.error.Error.{Error}
use Rattle.der_tlv.specs.ReaderState.{ReaderState, after_read, rest, unless_failed}
use Rattle.der_elem.specs.Parsing.{ContentsParse}

-- the value's own contents octets
abbrev pub accepts_own : {T : Type 0} → (T → List ℕ) → EncodingRules → T → List ℕ → Type 0
accepts_own contents rules v c = c ≡ contents v

-- the value's own contents octets, for the values within a range
abbrev pub accepts_within : {T : Type 0} → (T → List ℕ) → (T → Type 0) → EncodingRules → T → List ℕ → Type 0
accepts_within contents Within rules v c = (c ≡ contents v) × Within v

-- a value within the range was decoded from contents octets, which are its own
pub record OwnDecoded {T : Type 0} (contents : T → List ℕ) (Within : T → Type 0) (parse : ContentsParse) (old new : ReaderState) (v : T) : Type 0 where
  pub ready : old.failed ≡ false
  pub parsed : parse old.rules old.position (rest old) ≡ Ok (contents v)
  pub own : rest old ≡ contents v
  pub within : Within v
  pub after : new ≡ after_read old (length (rest old))

-- no value was decoded, for this error
pub record OwnNotDecoded (parse : ContentsParse) (old : ReaderState) (kind : ErrorKind) : Type 0 where
  pub fault_is : unless_failed (parse old.rules) old ≡ Err kind

-- the result of decoding such a value, without memory
abbrev pub DecodesOwn : {T : Type 0} → (T → List ℕ) → (T → Type 0) → ContentsParse → ReaderState → ReaderState → Result T Error → Type 0
DecodesOwn contents Within parse old new (Ok v) = OwnDecoded contents Within parse old new v
DecodesOwn contents Within parse old new (Err e) = OwnNotDecoded parse old e.kind
