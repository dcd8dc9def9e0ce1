-- Octets that begin with a tag (X.690 8.1.2).
use Rattle.std.proofs.Common.{◌≡◌, ℕ, List, [], ◌++◌, Option, Some, None, length, ◌∙◌, append_assoc}
use Rattle.der_tlv.specs.declared.encoding_rules.EncodingRules.{EncodingRules}
use Rattle.der_tlv.specs.declared.tag.Tag.{Tag}
use Rattle.der_tlv.specs.TagParts.{IsTag}
use Rattle.der_tlv.specs.Identifier.{identifier}
use Rattle.der_tlv.specs.LengthOctets.{length_octets}
use Rattle.der_elem.specs.Accepting.{accepts_tagged}

-- octets that begin with this tag
pub record BeginsWithTag (t : Tag) (octets : List ℕ) : Type 0 where
  pub others : List ℕ
  pub octets_are : octets ≡ identifier t ++ others
  pub is_tag : IsTag t

-- octets that begin with this tag, or no octets if there is no tag
abbrev pub BeginsWithFirst : Option Tag → List ℕ → Type 0
BeginsWithFirst None octets = octets ≡ []
BeginsWithFirst (Some t) octets = BeginsWithTag t octets

-- there is a first tag
pub record HasFirstTag (first_tag : Option Tag) : Type 0 where
  pub tag : Tag
  pub is_tag : first_tag ≡ Some tag

-- octets that start with this tag's identifier octets
pub record StartsWith (t : Tag) (octets : List ℕ) : Type 0 where
  pub others : List ℕ
  pub octets_are : octets ≡ identifier t ++ others

-- octets that start with this tag, or no octets if there is no tag
abbrev pub Starts : Option Tag → List ℕ → Type 0
Starts None octets = octets ≡ []
Starts (Some t) octets = StartsWith t octets

-- whether both have a tag, or neither
abbrev pub SamePresence : Option Tag → Option Tag → Type 0
SamePresence None None = Unit {0}
SamePresence (Some t) (Some u) = Unit {0}
SamePresence None (Some u) = ⊥
SamePresence (Some t) None = ⊥

-- accepted octets of a type with one tag begin with it
pub begins_first_tagged : {T : Type 0} (t : Tag) (is_tag : IsTag t) (accepts : EncodingRules → T → List ℕ → Type 0) (rules : EncodingRules) (v : T) (b : List ℕ) → accepts_tagged t accepts rules v b → BeginsWithTag t b
begins_first_tagged t is_tag accepts rules v b (c, e, a) =
    record { others = length_octets (length c) ++ c; octets_are = e ∙ append_assoc (identifier t) (length_octets (length c)) c; is_tag = is_tag }
