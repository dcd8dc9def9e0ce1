-- The identifier octets (X.690 8.1.2).
use Rattle.std.specs.Prelude.{ℕ, ◌+◌, ◌*◌, ◌/◌, ◌%◌, Bool, true, false, nat_lt, nat_eq, if◌then◌else◌, List, [], ◌∷◌, ◌++◌, map}
use Rattle.std.specs.Cmp.Lexicographic.{pointwise}
use Rattle.std.specs.Int.Digits.{digits_of}
use Rattle.der_tlv.specs.declared.tag.class.Class.{Class}
use Rattle.der_tlv.specs.declared.tag.class.Class.TheVariants.{Universal, Application, ContextSpecific, Private}
use Rattle.der_tlv.specs.declared.tag.Tag.{Tag}
use Rattle.der_tlv.specs.TagParts.{class_of, is_constructed, number_of}

-- bits 8 and 7, as a number (X.690 8.1.2.2, table 1)
abbrev pub class_index : Class → ℕ
class_index Universal = 0
class_index Application = 1
class_index ContextSpecific = 2
class_index Private = 3

-- bit 6 (X.690 8.1.2.5)
abbrev pub form_bit : Bool → ℕ
form_bit true = 1
form_bit false = 0

-- the first octet, from the class, the form and bits 5 to 1
abbrev pub first_octet : Class → Bool → ℕ → ℕ
first_octet class constructed low = 64 * class_index class + (32 * form_bit constructed + low)

-- a number in base 128, highest digit first, in the fewest octets: bit 8 is set in all but the last (X.690 8.1.2.4.2)
unfoldable pub number_octets : ℕ → List ℕ
number_octets n = map (λ d. 128 + d) (digits_of 128 (n / 128)) ++ ((n % 128) ∷ [])

-- one octet for a number of at most 30, else bits 5 to 1 are ones and the number follows (X.690 8.1.2.3, 8.1.2.4)
unfoldable pub identifier_octets : Class → Bool → ℕ → List ℕ
identifier_octets class constructed n =
    if nat_lt n 31 then first_octet class constructed n ∷ [] else first_octet class constructed 31 ∷ number_octets n

-- the identifier octets of a tag
unfoldable pub identifier : Tag → List ℕ
identifier t = identifier_octets (class_of t) (is_constructed t) (number_of t)

-- whether two tags have the same identifier octets, and so are the same tag
unfoldable pub same_identifier : Tag → Tag → Bool
same_identifier t u = pointwise nat_eq (identifier t) (identifier u)
