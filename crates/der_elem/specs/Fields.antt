-- Two fields of a SEQUENCE, and the second is OPTIONAL (X.690 8.9).
use Rattle.std.proofs.Common.{◌≡◌, ℕ, List, ◌++◌, Option, Some, None, refl}
use Rattle.std.specs.Option.{option_cmp}
use Rattle.std.specs.Ordering.{ordering_then, on}
use Rattle.der_tlv.specs.declared.tag.Tag.{Tag}
use Rattle.der_tlv.specs.Octets.{lex}
use Rattle.der_tlv.specs.OctetLaws.{lex-append}
use Rattle.der_tlv.specs.HeaderOctets.{tlv}
use Rattle.der_elem.specs.Options.{encoding_option}
use Rattle.der_elem.specs.OrderLaws.{encoding-beginning, lex-absent-present, lex-present-absent}
use Rattle.der_elem.specs.EqualityLaws.{encoding-unique}

-- the encoding of a field, and then that of a field that may be absent
abbrev pub encoding_fields : {T U : Type 0} → (T → List ℕ) → (U → List ℕ) → T → Option U → List ℕ
encoding_fields first second v o = first v ++ encoding_option second o

-- the first field that differs decides the order, and an absent field is before any other
abbrev pub FirstFieldDecides : {T U : Type 0} → (T → List ℕ) → (U → List ℕ) → Type 0
FirstFieldDecides {T} {U} first second =
    (v w : T) (o q : Option U) → lex (encoding_fields first second v o) (encoding_fields first second w q) ≡ ordering_then (lex (first v) (first w)) (option_cmp (on second lex) o q)

-- the joined encodings of both fields determine each encoding
abbrev pub FieldsAreDistinguished : {T U : Type 0} → (T → List ℕ) → (U → List ℕ) → Type 0
FieldsAreDistinguished {T} {U} first second =
    (v w : T) (o q : Option U) → encoding_fields first second v o ≡ encoding_fields first second w q → (first v ≡ first w) × (encoding_option second o ≡ encoding_option second q)

module _ {T : Type 0} (tag_of : T → Tag) (contents encoding : T → List ℕ) (encoding_is : (v : T) → encoding v ≡ tlv (tag_of v) (contents v)) where
  -- the empty list of octets is less than an encoding
  pub lex-option : (o q : Option T) → lex (encoding_option encoding o) (encoding_option encoding q) ≡ option_cmp (on encoding lex) o q
  lex-option None None = refl
  lex-option None (Some w) = lex-absent-present tag_of contents encoding encoding_is w
  lex-option (Some v) None = lex-present-absent tag_of contents encoding encoding_is v
  lex-option (Some v) (Some w) = refl

  -- the order of octets that begin with an encoding is decided by the encoding, else by what follows
  pub lex-first : (v w : T) (x y : List ℕ) → lex (encoding v ++ x) (encoding w ++ y) ≡ ordering_then (lex (encoding v) (encoding w)) (lex x y)
  lex-first v w x y = lex-append (encoding v) (encoding w) x y (encoding-beginning tag_of contents encoding encoding_is v w)

  pub distinguished : {U : Type 0} (second : U → List ℕ) → FieldsAreDistinguished encoding second
  distinguished second v w o q e = encoding-unique tag_of contents encoding encoding_is v w (encoding_option second o) (encoding_option second q) e
