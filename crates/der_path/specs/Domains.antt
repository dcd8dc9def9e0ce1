-- Domain names as section 4.2.1.10 compares them: labels separated by periods (46), with ASCII letters in either case.
use Rattle.std.specs.Prelude.{ℕ, ◌==◌, ◌-◌, nat_le, List, [], ◌∷◌, length, drop, Bool, true, false, ◌&&◌, ◌||◌, if◌then◌else◌}
use Rattle.std.specs.Cmp.Lexicographic.{pointwise}
use Rattle.der_verify.specs.Text.{same_character}
use Rattle.der_path.specs.declared.placement.Placement.{Placement}
use Rattle.der_path.specs.declared.placement.Placement.TheVariants.{Undefined}
use Rattle.der_path.specs.Placement.{inside_if}

-- texts that are equal except for the case of ASCII letters
abbrev pub same_letters : List ℕ → List ℕ → Bool
same_letters = pointwise same_character

-- a text that ends with these octets, except for the case of letters
abbrev pub ends_so : List ℕ → List ℕ → Bool
ends_so end text = nat_le (length end) (length text) && same_letters end (drop (length text - length end) text)

-- labels of one octet or more, separated by periods; `begun` says whether the label at the front of the octets has an octet before them
abbrev pub has_labels : Bool → List ℕ → Bool
has_labels begun [] = begun
has_labels begun (x ∷ xs) = if x == 46 then begun && has_labels false xs else has_labels true xs

abbrev pub is_domain : List ℕ → Bool
is_domain = has_labels false

-- "Any DNS name that can be constructed by simply adding zero or more labels to the left-hand side of the name satisfies the name constraint."
abbrev pub is_within_domain : List ℕ → List ℕ → Bool
is_within_domain constraint name = length constraint == 0 || (same_letters constraint name || ends_so (46 ∷ constraint) name)

-- the placement of a dNSName in a constraint
abbrev pub domain_placement : List ℕ → List ℕ → Placement
domain_placement constraint name =
    if (length constraint == 0 || is_domain constraint) && is_domain name
    then inside_if (is_within_domain constraint name)
    else Undefined

-- a constraint that is the name of a host, or a period and a domain name
abbrev pub is_host_constraint : List ℕ → Bool
is_host_constraint [] = false
is_host_constraint (x ∷ xs) = if x == 46 then is_domain xs else is_domain (x ∷ xs)

-- "When the constraint begins with a period, it MAY be expanded with one or more labels." "When the constraint does not begin with a period, it specifies a host."
abbrev pub is_within_host : List ℕ → List ℕ → Bool
is_within_host [] host = false
is_within_host (x ∷ xs) host = if x == 46 then ends_so (x ∷ xs) host else same_letters (x ∷ xs) host
