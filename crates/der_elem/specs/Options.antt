-- A value that may be absent, and then has no octets (X.690 8.9.3: OPTIONAL).
use Rattle.std.specs.Prelude.{◌≡◌, ℕ, List, [], ◌∷◌, Bool, false, if◌then◌else◌, Option, Some, None, Result, Ok, Err}
use Rattle.der_tlv.specs.declared.error.ErrorKind.{ErrorKind}
use Rattle.der_tlv.specs.declared.tag.Tag.{Tag}
use Rattle.der_tlv.specs.HeaderReading.{read_tag}
use Rattle.der_elem.specs.Parsing.{Parse}

-- an absent value has no octets
abbrev pub encoding_option : {T : Type 0} → (T → List ℕ) → Option T → List ℕ
encoding_option encoding None = []
encoding_option encoding (Some v) = encoding v

-- an absent value has no tag
abbrev pub first_tag_option : {T : Type 0} → (T → Option Tag) → Option T → Option Tag
first_tag_option first_tag None = None
first_tag_option first_tag (Some v) = first_tag v

-- an absent value is comparable with every value
abbrev pub comparable_option : {T : Type 0} → (T → T → Type 0) → Option T → Option T → Type 0
comparable_option comparable (Some v) (Some w) = comparable v w
comparable_option comparable (Some v) None = Unit {0}
comparable_option comparable None o = Unit {0}

abbrev pub test_option : {T : Type 0} → (T → Bool) → Option T → Bool
test_option test None = false
test_option test (Some v) = test v

abbrev pub accepts_option : {T : Type 0} → (T → List ℕ → Type 0) → Option T → List ℕ → Type 0
accepts_option accepts None octets = octets ≡ []
accepts_option accepts (Some v) octets = accepts v octets

abbrev pub readable_option : {T : Type 0} → (T → Type 0) → Option T → Type 0
readable_option readable None = Unit {0}
readable_option readable (Some v) = readable v

-- one absent value is a copy of another, and a copy of a value is a copy
abbrev pub is_copy_option : {T : Type 0} → (T → T → Type 0) → Option T → Option T → Type 0
is_copy_option is_copy None None = Unit {0}
is_copy_option is_copy (Some v) (Some w) = is_copy v w
is_copy_option is_copy None (Some w) = ⊥
is_copy_option is_copy (Some v) None = ⊥

-- after the next tag is read: a value if the tag is one of these, else none
abbrev pub parse_at_tag : (Tag → Bool) → Result (ℕ × List ℕ) ErrorKind → Result (ℕ × Tag) ErrorKind → Result (ℕ × List ℕ) ErrorKind
parse_at_tag tags parsed (Err k) = Err k
parse_at_tag tags parsed (Ok (count, tag)) = if tags tag then parsed else Ok (0, [])

-- At the end, and before a tag that is none of these, there is no value. The errors of the next tag come first.
abbrev pub parse_option : (Tag → Bool) → Parse → Parse
parse_option tags parse rules p [] = Ok (0, [])
parse_option tags parse rules p (z ∷ octets) = parse_at_tag tags (parse rules p (z ∷ octets)) (read_tag p (z ∷ octets))
