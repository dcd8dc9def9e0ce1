-- A field that has a DEFAULT: the default value has no octets (X.690 11.5).
use Rattle.std.specs.Prelude.{◌≡◌, ℕ, List, [], ◌∷◌, Bool, true, false, nat_eq, if◌then◌else◌, Option, None, Result, Ok, Err}
use Rattle.std.specs.Cmp.Lexicographic.{pointwise}
use Rattle.der_tlv.specs.declared.error.ErrorKind.{ErrorKind}
use Rattle.der_tlv.specs.declared.error.ErrorKind.TheVariants.{Noncanonical}
use Rattle.der_tlv.specs.declared.tag.Tag.{Tag}
use Rattle.der_tlv.specs.HeaderReading.{read_tag}
use Rattle.der_elem.specs.Parsing.{Parse}

-- whether an encoding is the default's
abbrev pub is_default : List ℕ → List ℕ → Bool
is_default default octets = pointwise nat_eq octets default

-- the octets of a field whose value is the default or not
abbrev pub octets_unless : Bool → List ℕ → List ℕ
octets_unless true octets = []
octets_unless false octets = octets

-- the first tag of such a field
abbrev pub first_tag_unless : Bool → Option Tag → Option Tag
first_tag_unless true first_tag = None
first_tag_unless false first_tag = first_tag

-- whether the value is not the default, and the test is true of it
abbrev pub test_unless : Bool → Bool → Bool
test_unless true test = false
test_unless false test = test

-- the default is read from no octets, and any other value from its own octets
abbrev pub accepts_unless : Bool → Type 0 → (List ℕ → Type 0) → List ℕ → Type 0
accepts_unless true can_be_read accepts octets = (octets ≡ []) × can_be_read
accepts_unless false can_be_read accepts octets = accepts octets

-- an encoding that is the default's is refused (8)
abbrev pub refuse_default : List ℕ → Tag → Result (ℕ × List ℕ) ErrorKind → Result (ℕ × List ℕ) ErrorKind
refuse_default default tag (Err k) = Err k
refuse_default default tag (Ok (n, octets)) = if pointwise nat_eq octets default then Err (Noncanonical tag) else Ok (n, octets)

abbrev pub default_at_tag : (Tag → Bool) → List ℕ → Result (ℕ × List ℕ) ErrorKind → Result (ℕ × Tag) ErrorKind → Result (ℕ × List ℕ) ErrorKind
default_at_tag tags default parsed (Err k) = Err k
default_at_tag tags default parsed (Ok (count, tag)) = if tags tag then refuse_default default tag parsed else Ok (0, [])

-- At the end, and before a tag that is none of these, the value is the default. The errors of the next tag come first, and the default's own encoding is refused.
abbrev pub parse_default : (Tag → Bool) → List ℕ → Parse → Parse
parse_default tags default parse rules p [] = Ok (0, [])
parse_default tags default parse rules p (z ∷ octets) = default_at_tag tags default (parse rules p (z ∷ octets)) (read_tag p (z ∷ octets))
