-- Laws of identifier octets, and of reading them.
use Rattle.std.specs.Prelude.{◌≡◌, ℕ, ◌<◌, ◌≤◌, List, ◌++◌, length, Ok}
use Rattle.std.specs.Ordering.{ordering_then}
use Rattle.der_tlv.specs.declared.tag.Tag.{Tag}
use Rattle.der_tlv.specs.TagParts.{IsTag}
use Rattle.der_tlv.specs.Identifier.{identifier}
use Rattle.der_tlv.specs.HeaderReading.{read_tag}
use Rattle.der_tlv.specs.Octets.{lex}

-- no identifier octets are a prefix of those of another tag
abbrev pub IdentifiersAreUnique : Type 0
IdentifiersAreUnique = (t u : Tag) (x y : List ℕ) → identifier t ++ x ≡ identifier u ++ y → (t ≡ u) × (x ≡ y)

-- tags with the same identifier octets are the same
abbrev pub IdentifiersDistinguishTags : Type 0
IdentifiersDistinguishTags = (t u : Tag) → identifier t ≡ identifier u → t ≡ u

-- reading the identifier octets of a tag gives that tag, whatever follows
abbrev pub IdentifiersReadBack : Type 0
IdentifiersReadBack = (t : Tag) (p : ℕ) (x : List ℕ) → IsTag t → read_tag p (identifier t ++ x) ≡ Ok (length (identifier t), t)

-- what follows identifier octets affects their order only if the tags are the same
abbrev pub IdentifiersDecideOrder : Type 0
IdentifiersDecideOrder = (t u : Tag) (x y : List ℕ) → lex (identifier t ++ x) (identifier u ++ y) ≡ ordering_then (lex (identifier t) (identifier u)) (lex x y)

-- a tag has one to six identifier octets
abbrev pub IdentifiersAreShort : Type 0
IdentifiersAreShort = (t : Tag) → IsTag t → (0 < length (identifier t)) × (length (identifier t) ≤ 6)
