-- The value of an Any that a caller sees.
use Rattle.std.specs.Prelude.{ℕ, List}
use Rattle.der_tlv.specs.declared.tag.Tag.{Tag}
use Rattle.der_opaque.specs.declared.any.Any.{Any}

-- the tag of the value
abbrev pub tag_of : Any → Tag
tag_of any = any.tag

-- the contents octets
abbrev pub contents_of : Any → List ℕ
contents_of any = any.value.items
