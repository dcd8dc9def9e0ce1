-- Encodings one after another, as they stand in the value of an extension and in a name: each by the first octet of its identifier, its contents octets, and the octets after it (X.690 8.1). In RFC 5280's modules an identifier has one octet.
use Rattle.std.specs.Prelude.{ℕ, zero, suc, ◌+◌, ◌*◌, ◌==◌, nat_le, nat_lt, List, [], ◌∷◌, length, take, drop, Bool, if◌then◌else◌, Option, Some, None}
use Rattle.std.specs.Borrow.{Bor}
use Rattle.std.specs.List.{list_any}

-- as many contents octets as a length says, and the octets after them
abbrev pub split_at : ℕ → List ℕ → Option (List ℕ × List ℕ)
split_at count octets = if nat_le count (length octets) then Some (take count octets, drop count octets) else None

-- a length of one octet more
abbrev pub split_long : ℕ → ℕ → List ℕ → Option (List ℕ × List ℕ)
split_long zero count octets = split_at count octets
split_long (suc more) count [] = None
split_long (suc more) count (x ∷ xs) = split_long more (count * 256 + x) xs

-- the contents octets after the length octets: the short form (8.1.3.4), or the long form with at most three octets (8.1.3.5)
abbrev pub after_length : ℕ → List ℕ → Option (List ℕ × List ℕ)
after_length first octets =
    if nat_lt first 128 then split_at first octets
    else (if first == 129 then split_long 1 0 octets
    else (if first == 130 then split_long 2 0 octets
    else (if first == 131 then split_long 3 0 octets
    else None)))

-- with an identifier of one octet
abbrev pub with_identifier_octet : ℕ → Option (List ℕ × List ℕ) → Option (ℕ × List ℕ × List ℕ)
with_identifier_octet identifier None = None
with_identifier_octet identifier (Some (contents, others)) = Some (identifier, contents, others)

-- the encoding at the front; none if the octets begin with no encoding
abbrev pub front_of : List ℕ → Option (ℕ × List ℕ × List ℕ)
front_of [] = None
front_of (identifier ∷ []) = None
front_of (identifier ∷ (first ∷ octets)) = with_identifier_octet identifier (after_length first octets)

-- the same, of slices
abbrev pub seen_split : Option (Bor (List ℕ) × Bor (List ℕ)) → Option (List ℕ × List ℕ)
seen_split None = None
seen_split (Some (contents, others)) = Some (contents.now, others.now)

abbrev pub seen_front : Option (ℕ × Bor (List ℕ) × Bor (List ℕ)) → Option (ℕ × List ℕ × List ℕ)
seen_front None = None
seen_front (Some (identifier, contents, others)) = Some (identifier, contents.now, others.now)

-- the encoding at the front, and those of the octets after it
abbrev pub with_front : Option (ℕ × List ℕ × List ℕ) → (List ℕ → List (ℕ × List ℕ × List ℕ)) → List (ℕ × List ℕ × List ℕ)
with_front None next = []
with_front (Some (identifier, contents, others)) next = (identifier, contents, others) ∷ next others

-- each encoding of the octets, up to octets that begin with none; there are at most this number
unfoldable pub fronts_within : ℕ → List ℕ → List (ℕ × List ℕ × List ℕ)
fronts_within zero octets = []
fronts_within (suc most) octets = with_front (front_of octets) (fronts_within most)

-- a test of an encoding: its identifier, its contents octets, and the octets after it
abbrev pub Test : Type 0
Test = ℕ → List ℕ → List ℕ → Bool

abbrev pub passes : Test → ℕ × List ℕ × List ℕ → Bool
passes test (identifier, contents, others) = test identifier contents others

-- whether one of the encodings passes
abbrev pub one_is : Test → List ℕ → Bool
one_is test octets = list_any (passes test) (fronts_within (length octets) octets)

-- whether one of the encodings has this identifier
abbrev pub has_identifier : ℕ → List ℕ → Bool
has_identifier identifier = one_is (λ i contents others. i == identifier)

-- the contents octets of the encoding at the front, if this is its identifier, and else none
abbrev pub contents_if : ℕ → Option (ℕ × List ℕ × List ℕ) → List ℕ
contents_if identifier None = []
contents_if identifier (Some (i, contents, others)) = if i == identifier then contents else []

abbrev pub within : ℕ → List ℕ → List ℕ
within identifier octets = contents_if identifier (front_of octets)

-- whether a test holds for the contents octets of one of the encodings within one of the encodings: an attribute in a part of a name, a subtree in a field of NameConstraints
abbrev pub inner : (List ℕ → Bool) → Test
inner test i contents others = test contents

abbrev pub outer : (List ℕ → Bool) → Test
outer test i contents others = one_is (inner test) contents

abbrev pub one_within : (List ℕ → Bool) → List ℕ → Bool
one_within test octets = one_is (outer test) octets
