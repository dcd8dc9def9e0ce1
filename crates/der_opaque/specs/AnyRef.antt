-- The value of an AnyRef that a caller sees.
use Rattle.std.specs.Prelude.{ℕ, List}
use Rattle.der_tlv.specs.declared.tag.Tag.{Tag}
use Rattle.der_opaque.specs.declared.any_ref.AnyRef.{AnyRef}

-- the tag of the value
abbrev pub tag_of : AnyRef → Tag
tag_of any = any.tag

-- the contents octets
abbrev pub contents_of : AnyRef → List ℕ
contents_of any = any.value.now
