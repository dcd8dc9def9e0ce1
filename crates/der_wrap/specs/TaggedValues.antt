-- Tagged values (X.690 8.14): their encodings, and the octets from which they are read.
use Rattle.std.specs.Prelude.{◌≡◌, ℕ, ◌+◌, ◌-◌, ◌<◌, ◌^◌, ◌==◌, List, [], length, drop, Bool, true, false, if◌then◌else◌, None, Result, Ok, Err}
use Rattle.std.specs.Bool.{beq}
use Rattle.std.specs.declared.cmp.Ordering.{Ordering}
use Rattle.std.specs.declared.cmp.Ordering.TheVariants.{Less, Equal, Greater}
use Rattle.der_tlv.specs.declared.error.ErrorKind.{ErrorKind}
use Rattle.der_tlv.specs.declared.error.ErrorKind.TheVariants.{Noncanonical, TagUnexpected, TrailingData}
use Rattle.der_tlv.specs.declared.encoding_rules.EncodingRules.{EncodingRules}
use Rattle.der_tlv.specs.declared.encoding_rules.EncodingRules.TheVariants.{Der, Ber}
use Rattle.der_tlv.specs.declared.header.Header.{Header}
use Rattle.der_tlv.specs.declared.tag.Tag.{Tag}
use Rattle.der_tlv.specs.declared.tag.number.TagNumber.{TagNumber}
use Rattle.der_tlv.specs.declared.tag.mode.TagMode.{TagMode}
use Rattle.der_tlv.specs.declared.tag.mode.TagMode.TheVariants.{Explicit, Implicit}
use Rattle.der_tlv.specs.TagParts.{is_constructed}
use Rattle.der_tlv.specs.HeaderOctets.{tlv}
use Rattle.der_tlv.specs.HeaderReading.{read_header}
use Rattle.der_tlv.specs.TagMatching.{match_tag}
use Rattle.der_elem.specs.Parsing.{Parse, ContentsParse, parse_contents}
use Rattle.der_wrap.specs.ClassTags.{class_of_bits, class_tag, in_class}

-- explicit tagging is constructed; implicit tagging is constructed if the encoding of the value is (X.690 8.14.2, 8.14.3)
abbrev pub tag_of_mode : ℕ → TagMode → ℕ → Tag → Tag
tag_of_mode bits Explicit n inner = class_tag bits true n
tag_of_mode bits Implicit n inner = class_tag bits (is_constructed inner) n

-- explicit tagging keeps the whole encoding of the value, implicit tagging its contents octets
abbrev pub contents_of_mode : TagMode → List ℕ → List ℕ → List ℕ
contents_of_mode Explicit encoding contents = encoding
contents_of_mode Implicit encoding contents = contents

-- explicit tagging is before implicit tagging
abbrev pub mode_cmp : TagMode → TagMode → Ordering
mode_cmp Explicit Explicit = Equal
mode_cmp Explicit Implicit = Less
mode_cmp Implicit Explicit = Greater
mode_cmp Implicit Implicit = Equal

-- Two tagged values are comparable if their modes are equal and their values are comparable; under implicit tagging, their own tags, which are not encoded, must be equal.
pub record ComparableTagged {T : Type 0} (alike : T → T → Type 0) (tag_of : T → Tag) (mode other : TagMode) (v w : T) : Type 0 where
  pub same_mode : mode ≡ other
  pub comparable : alike v w
  pub same_tag : mode ≡ Implicit → tag_of v ≡ tag_of w

-- all of the octets at a position must be the encoding of a value: octets left over are an error (3)
abbrev pub all_of : ℕ → ℕ → Result (ℕ × List ℕ) ErrorKind → Result (List ℕ) ErrorKind
all_of p len (Ok (n, encoding)) = if n == len then Ok encoding else Err (TrailingData (p + n) (len - n))
all_of p len (Err k) = Err k

-- the contents octets of explicit tagging: one encoding and nothing else
abbrev pub one_encoding : Parse → ContentsParse
one_encoding parse rules p octets = all_of p (length octets) (parse rules p octets)

-- the result after a header of explicit tagging: a primitive tag is refused (8), then another class (4, with no expected tag)
abbrev pub in_explicit : ℕ → Tag → Result (ℕ × List ℕ) ErrorKind → Result (ℕ × List ℕ) ErrorKind
in_explicit bits t parsed =
    if is_constructed t then (if in_class bits t then parsed else Err (TagUnexpected None t)) else Err (Noncanonical t)

abbrev pub explicit_with_header : ℕ → Parse → EncodingRules → ℕ → List ℕ → Result (ℕ × Header) ErrorKind → Result (ℕ × List ℕ) ErrorKind
explicit_with_header bits parse rules p octets (Err k) = Err k
explicit_with_header bits parse rules p octets (Ok (count, h)) =
    in_explicit bits h.tag (parse_contents h.tag (one_encoding parse) rules count (p + count) h.length (drop count octets))

-- Explicit tagging of the class: the errors of the header, of the tag (8, 4), of contents longer than the octets left (2, 9), of the value, and of octets left over (3).
unfoldable pub parse_explicit : ℕ → Parse → Parse
parse_explicit bits parse rules p octets = explicit_with_header bits parse rules p octets (read_header p octets)

-- DER requires the form of the encoding of the value (X.690 8.14.3); BER allows either
abbrev pub form_allowed : EncodingRules → Bool → Bool → Bool
form_allowed Der constructed own = beq constructed own
form_allowed Ber constructed own = true

-- the result after the header of implicit tagging: under DER the other form is refused (8)
abbrev pub in_implicit : EncodingRules → Bool → Tag → Result (ℕ × List ℕ) ErrorKind → Result (ℕ × List ℕ) ErrorKind
in_implicit rules own t parsed = if form_allowed rules (is_constructed t) own then parsed else Err (Noncanonical t)

abbrev pub implicit_with_header : Tag → Bool → ContentsParse → EncodingRules → ℕ → List ℕ → Result (ℕ × Header) ErrorKind → Result (ℕ × List ℕ) ErrorKind
implicit_with_header t own parse rules p octets (Err k) = Err k
implicit_with_header t own parse rules p octets (Ok (count, h)) =
    in_implicit rules own h.tag (parse_contents t parse rules count (p + count) h.length (drop count octets))

-- Implicit tagging, which is encoded with this tag in this form, and read after a tag of its class and number: the errors of the header, of the form (8), of contents longer than the octets left (2, 9), and of the contents.
unfoldable pub parse_implicit : Tag → Bool → ContentsParse → Parse
parse_implicit t own parse rules p octets = implicit_with_header t own parse rules p octets (read_header p octets)

abbrev pub at_match : Result (ℕ × List ℕ) ErrorKind → Result Bool ErrorKind → Result (ℕ × List ℕ) ErrorKind
at_match parsed (Ok true) = parsed
at_match parsed (Ok false) = Ok (0, [])
at_match parsed (Err k) = Err k

-- A field with this number: it is absent at the end and before another class or number; the errors of the next tag come first.
abbrev pub parse_optional_field : ℕ → ℕ → Parse → Parse
parse_optional_field bits n parse rules p octets = at_match (parse rules p octets) (match_tag (class_of_bits bits) n p octets)

-- the grammar of explicit tagging: a constructed tag of the class, and then an encoding from which the value is read
pub record AcceptsExplicit {T : Type 0} (accepts : EncodingRules → T → List ℕ → Type 0) (bits n : ℕ) (mode : TagMode) (v : T) (rules : EncodingRules) (octets : List ℕ) : Type 0 where
  pub mode_is : mode ≡ Explicit
  pub numbered : n < 2 ^ 32
  pub inner : List ℕ
  pub octets_are : octets ≡ tlv (class_tag bits true n) inner
  pub accepted : accepts rules v inner

-- the grammar of implicit tagging: a tag of the class and number, under DER in the form of the encoding of the value, and then contents octets from which the value is read
pub record AcceptsImplicit {T : Type 0} (accepts : EncodingRules → T → List ℕ → Type 0) (bits n : ℕ) (own : Bool) (v : T) (rules : EncodingRules) (octets : List ℕ) : Type 0 where
  pub constructed : Bool
  pub allowed : form_allowed rules constructed own ≡ true
  pub inner : List ℕ
  pub octets_are : octets ≡ tlv (class_tag bits constructed n) inner
  pub accepted : accepts rules v inner

-- a value that is read has explicit tagging, and the value in it can be read
pub record ReadableExplicit {T : Type 0} (can_be_read : T → Type 0) (n : ℕ) (mode : TagMode) (v : T) : Type 0 where
  pub mode_is : mode ≡ Explicit
  pub numbered : n < 2 ^ 32
  pub readable : can_be_read v

-- the contents octets of explicit tagging: an encoding from which the value is read
abbrev pub accepts_one_encoding : {T : Type 0} → (EncodingRules → T → List ℕ → Type 0) → TagMode → EncodingRules → T → List ℕ → Type 0
accepts_one_encoding accepts mode rules v octets = (mode ≡ Explicit) × accepts rules v octets

-- The result of a tag under explicit tagging of a class: its number, or the error, with any octets after it.
abbrev pub TagsExplicitly : ℕ → Tag → Result TagNumber ErrorKind → Type 0
TagsExplicitly bits t (Ok number) = t ≡ class_tag bits true number.0
TagsExplicitly bits t (Err kind) = (parsed : Result (ℕ × List ℕ) ErrorKind) → in_explicit bits t parsed ≡ Err kind

-- The result of a tag under implicit tagging in a form: nothing, or the error, with any octets after it.
abbrev pub TagsImplicitly : EncodingRules → Bool → Tag → Result (Unit {0}) ErrorKind → Type 0
TagsImplicitly rules own t (Ok u) = form_allowed rules (is_constructed t) own ≡ true
TagsImplicitly rules own t (Err kind) = (parsed : Result (ℕ × List ℕ) ErrorKind) → in_implicit rules own t parsed ≡ Err kind
