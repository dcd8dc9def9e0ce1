-- The meaning of the octets of the fields of a SEQUENCE: their encodings are one after another (X.690 8.9).
use Rattle.std.specs.Prelude.{List, ℕ, Option}
use Rattle.der_tlv.specs.declared.encoding_rules.EncodingRules.{EncodingRules}
use Rattle.der_tlv.specs.declared.tag.Tag.{Tag}
use Rattle.der_elem.specs.FirstTags.{BeginsWithFirst}
use Rattle.der_elem.specs.ContentsFormat.{ContentsFormat}

pub record FieldsFormat (V : Type 0) : Type 1 where
  -- the joined encodings of the fields, as contents octets
  pub octets : ContentsFormat V
  -- the tag of the first encoding, if any field has one
  pub first_tag : V → Option Tag
  pub begins_first : (rules : EncodingRules) (v : V) (c : List ℕ) → octets.accepts rules v c → BeginsWithFirst (first_tag v) c
