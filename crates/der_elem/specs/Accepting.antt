-- The octets that a value is read from, and the octets that may follow them.
use Rattle.std.specs.Prelude.{◌≡◌, ℕ, ◌<◌, ◌^◌, List, [], ◌∷◌, ◌++◌, length, Bool, false}
use Rattle.der_tlv.specs.declared.encoding_rules.EncodingRules.{EncodingRules}
use Rattle.der_tlv.specs.declared.tag.Tag.{Tag}
use Rattle.der_tlv.specs.TagParts.{IsTag}
use Rattle.der_tlv.specs.Identifier.{identifier}
use Rattle.der_tlv.specs.HeaderOctets.{tlv}

-- octets whose number fits a length
abbrev pub Fits : List ℕ → Type 0
Fits octets = length octets < 2 ^ 32

-- octets that begin with one of these tags, or with a tag that is none of these
pub record BeginsWith (tags : Tag → Bool) (one : Bool) (octets : List ℕ) : Type 0 where
  pub tag : Tag
  pub others : List ℕ
  pub octets_are : octets ≡ identifier tag ++ others
  pub is_tag : IsTag tag
  pub is_one : tags tag ≡ one

-- octets that are the identifier octets of a tag, length octets, and contents octets of this length (X.690 8.1.1)
pub record IsTlv (octets : List ℕ) : Type 0 where
  pub tag : Tag
  pub contents : List ℕ
  pub octets_are : octets ≡ tlv tag contents

-- Whether octets are distinguished from what follows: if they are empty, nothing follows, or a tag that is none of these.
abbrev pub MayFollow : (Tag → Bool) → List ℕ → List ℕ → Type 0
MayFollow tags (y ∷ octets) x = Unit {0}
MayFollow tags [] [] = Unit {0}
MayFollow tags [] (z ∷ x) = BeginsWith tags false (z ∷ x)

-- an encoding with this tag, whose contents octets are the value's
abbrev pub accepts_tagged : {T : Type 0} → Tag → (EncodingRules → T → List ℕ → Type 0) → EncodingRules → T → List ℕ → Type 0
accepts_tagged t accepts rules v octets = (contents : List ℕ) × (octets ≡ tlv t contents) × accepts rules v contents
