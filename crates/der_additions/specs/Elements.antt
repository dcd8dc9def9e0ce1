-- Whole encodings with any tags, one after another: their octets, and the values that are read from them.
use Rattle.std.specs.Prelude.{◌≡◌, ℕ, ◌≤◌, List, length, slice_get, Option, Some, None, Result, Ok, Err}
use Rattle.der_tlv.specs.declared.error.Error.{Error}
use Rattle.der_tlv.specs.declared.error.ErrorKind.{ErrorKind}
use Rattle.der_tlv.specs.declared.encoding_rules.EncodingRules.TheVariants.{Der}
use Rattle.der_tlv.specs.declared.header.Header.{Header}
use Rattle.der_tlv.specs.declared.tag.Tag.{Tag}
use Rattle.der_tlv.specs.HeaderReading.{read_header}
use Rattle.der_elem.specs.Parsing.{ContentsParse}
use Rattle.der_nest.specs.BorrowedSequences.{items_format, item_encodings, parse_all_items}
use Rattle.der_nest.specs.KeptFormat.{AreContentsOf, parse_kept}
use Rattle.der_opaque.specs.AnyForm.{parse_any}
use Rattle.der_opaque.specs.declared.any_ref.AnyRef.{AnyRef}
use Rattle.der_opaque.specs.contracts.any_ref.AnyRefForm.TheImpl.{ghosts as any_form}

-- under DER the octets are those of encodings with any tags, one after another
abbrev pub AreElements : List ℕ → Type 0
AreElements octets = AreContentsOf (items_format any_form) octets

-- the octets as they came, or the first error of an encoding
abbrev pub parse_elements : ContentsParse
parse_elements = parse_kept (parse_all_items parse_any)

-- each encoding, in their order
abbrev pub encodings_of : List ℕ → List (List ℕ)
encodings_of = item_encodings parse_any

-- the tag of a header that was read
abbrev pub tag_of_header : Result (ℕ × Header) ErrorKind → Option Tag
tag_of_header (Ok (count, header)) = Some header.tag
tag_of_header (Err kind) = None

-- the tag that the octets begin with, if there are any
abbrev pub first_tag : List ℕ → Option Tag
first_tag octets = tag_of_header (read_header 0 octets)

-- a value keeps the octets, which are such encodings; or this is their first error
abbrev pub KeepsElements : {T : Type 0} → (T → List ℕ) → List ℕ → Result T Error → Type 0
KeepsElements octets_of octets (Ok kept) = (octets_of kept ≡ octets) × (parse_elements Der 0 octets ≡ Ok octets)
KeepsElements octets_of octets (Err e) = parse_elements Der 0 octets ≡ Err e.kind

-- the value of the encoding at an index, or none if there is no such index
abbrev pub StandsAt : List (List ℕ) → ℕ → Option AnyRef → Type 0
StandsAt encodings index (Some v) = slice_get encodings index ≡ Some (any_form.encoding v)
StandsAt encodings index None = length encodings ≤ index
