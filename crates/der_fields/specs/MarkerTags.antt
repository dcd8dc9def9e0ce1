-- The tags of the application, the context-specific and the private class (X.690 8.1.2.2), with a number that is known in the type.
use Rattle.std.proofs.Common.{ℕ, ◌^◌, ◌==◌, Bool, true, false, nat_lt, if◌then◌else◌, arith}
use Rattle.std.proofs.lemmas.Bool.Decides.{nat_tests}
use Rattle.der_tlv.specs.declared.tag.Tag.{Tag}
use Rattle.der_tlv.specs.declared.tag.Tag.TheVariants.{Application, ContextSpecific, Private}
use Rattle.der_tlv.specs.TagParts.{IsTag}

-- the number if it is below 2^32, otherwise 0
abbrev pub tag_number : ℕ → ℕ
tag_number n = if nat_lt n (2 ^ 32) then n else 0

-- the tag of a class with this form and number: class 1 is application, 2 context-specific, 3 private (no type has another)
abbrev pub marker_tag : ℕ → Bool → ℕ → Tag
marker_tag bits constructed n =
    if bits == 1 then Application constructed (record { 0 = tag_number n })
    else (if bits == 2 then ContextSpecific constructed (record { 0 = tag_number n })
    else Private constructed (record { 0 = tag_number n }))

module _ (constructed : Bool) (n : ℕ) where
  in_range : (one two : Bool) → IsTag (if one then Application constructed (record { 0 = tag_number n }) else (if two then ContextSpecific constructed (record { 0 = tag_number n }) else Private constructed (record { 0 = tag_number n })))
  in_range true two = grind (arith, nat_tests)
  in_range false true = grind (arith, nat_tests)
  in_range false false = grind (arith, nat_tests)

-- its number is within 32 bits
pub marker_tag-in_range : (bits : ℕ) (constructed : Bool) (n : ℕ) → IsTag (marker_tag bits constructed n)
marker_tag-in_range bits constructed n = in_range constructed n (bits == 1) (bits == 2)
