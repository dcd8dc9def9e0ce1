-- The tags of the application, the context-specific and the private class (X.690 8.1.2.2).
use Rattle.std.specs.Prelude.{ℕ, ◌==◌, Bool, if◌then◌else◌}
use Rattle.der_tlv.specs.declared.tag.class.Class.{Class}
use Rattle.der_tlv.specs.declared.tag.class.Class.TheVariants as classes
use Rattle.der_tlv.specs.declared.tag.Tag.{Tag}
use Rattle.der_tlv.specs.declared.tag.Tag.TheVariants.{Application, ContextSpecific, Private}
use Rattle.der_tlv.specs.TagParts.{class_of}
use Rattle.der_tlv.specs.Identifier.{class_index}

-- the class of bits 8 and 7: 1 is application, 2 context-specific, 3 private (no type has any other)
abbrev pub class_of_bits : ℕ → Class
class_of_bits bits = if bits == 1 then classes.Application else (if bits == 2 then classes.ContextSpecific else classes.Private)

-- the tag of the class with this form and number
unfoldable pub class_tag : ℕ → Bool → ℕ → Tag
class_tag bits constructed n =
    if bits == 1 then Application constructed (record { 0 = n })
    else (if bits == 2 then ContextSpecific constructed (record { 0 = n })
    else Private constructed (record { 0 = n }))

-- whether a tag is of the class
abbrev pub in_class : ℕ → Tag → Bool
in_class bits t = class_index (class_of t) == class_index (class_of_bits bits)
