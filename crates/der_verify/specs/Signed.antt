-- The octets that a signature covers: in a SEQUENCE of the signed part, an algorithm and a signature, they are the encoding
-- of the first field (RFC 5280 4.1.1.3 and 5.1.1.3, RFC 2986 4.2, RFC 6960 4.2.1).
use Rattle.std.specs.Prelude.{ℕ, ◌≡◌, ◌<◌, ◌^◌, List, ◌++◌, length}
use Rattle.der_tlv.specs.declared.tag.Tag.{Tag}
use Rattle.der_tlv.specs.declared.tag.Tag.TheVariants.{Sequence}
use Rattle.der_tlv.specs.TagParts.{IsTag}
use Rattle.der_tlv.specs.HeaderOctets.{tlv}

-- octets that begin with a whole encoding, and are at most as many as a length can count
pub record BeginsWith (octets : List ℕ) (tag : Tag) (contents others : List ℕ) : Type 0 where
  pub is_tag : IsTag tag
  pub short : length octets < 2 ^ 32
  pub octets_are : octets ≡ tlv tag contents ++ others

-- a whole encoding whose contents octets begin with another
pub record HasFirst (octets : List ℕ) (outer inner : Tag) (contents others : List ℕ) : Type 0 where
  pub is_outer : IsTag outer
  pub is_inner : IsTag inner
  pub short : length octets < 2 ^ 32
  pub octets_are : octets ≡ tlv outer (tlv inner contents ++ others)

-- the octets of a SEQUENCE whose first field is `first`: it begins after the header, and is read
pub record ReadsFirst (reads : List ℕ → Type 0) (octets first : List ℕ) : Type 0 where
  pub others : List ℕ
  pub octets_are : octets ≡ tlv Sequence (first ++ others)
  pub read : reads first
