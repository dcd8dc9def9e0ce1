-- The hosts of URIs (RFC 3986 section 3) and their constraints (RFC 5280 section 4.2.1.10).
use Rattle.std.specs.Prelude.{ℕ, ◌==◌, nat_le, nat_lt, List, [], ◌∷◌, length, Bool, true, false, not, ◌&&◌, ◌||◌, if◌then◌else◌, Option, Some, None}
use Rattle.std.specs.List.{after_first, before_first, list_all, list_any, position_or_len}
use Rattle.der_path.specs.declared.placement.Placement.{Placement}
use Rattle.der_path.specs.declared.placement.Placement.TheVariants.{Undefined}
use Rattle.der_path.specs.Domains.{is_domain, is_host_constraint, is_within_host}
use Rattle.der_path.specs.Placement.{inside_if}

-- letters and digits of ASCII
abbrev pub is_letter : ℕ → Bool
is_letter x = (nat_le 65 x && nat_le x 90) || (nat_le 97 x && nat_le x 122)

abbrev pub is_digit : ℕ → Bool
is_digit x = nat_le 48 x && nat_le x 57

-- the octets before the first octet of this value, and those after it; none if it is absent
abbrev pub split_first : ℕ → List ℕ → Option (List ℕ × List ℕ)
split_first at octets =
    if nat_lt (position_or_len (λ x. x == at) octets) (length octets)
    then Some (before_first (λ x. x == at) octets, after_first (λ x. x == at) octets)
    else None

-- scheme = ALPHA *( ALPHA / DIGIT / "+" / "-" / "." )
abbrev pub is_scheme_octet : ℕ → Bool
is_scheme_octet x = is_letter x || (is_digit x || (x == 43 || (x == 45 || x == 46)))

abbrev pub is_scheme : List ℕ → Bool
is_scheme [] = false
is_scheme (x ∷ xs) = is_letter x && list_all is_scheme_octet xs

-- "The authority component is preceded by a double slash and is terminated by the next slash, question mark, or number sign character, or by the end of the URI."
abbrev pub ends_authority : ℕ → Bool
ends_authority x = x == 47 || (x == 63 || x == 35)

abbrev pub authority_after : List ℕ → Option (List ℕ)
authority_after (x ∷ (y ∷ others)) = if x == 47 && y == 47 then Some (before_first ends_authority others) else None
authority_after _ = None

abbrev pub authority_behind : Option (List ℕ × List ℕ) → Option (List ℕ)
authority_behind None = None
authority_behind (Some (scheme, others)) = if is_scheme scheme then authority_after others else None

abbrev pub authority_of : List ℕ → Option (List ℕ)
authority_of uri = authority_behind (split_first 58 uri)

-- authority = [ userinfo "@" ] host [ ":" port ]
abbrev pub without_user : List ℕ → Option (List ℕ × List ℕ) → List ℕ
without_user authority None = authority
without_user authority (Some (user, others)) = others

abbrev pub without_port : List ℕ → Option (List ℕ × List ℕ) → Option (List ℕ)
without_port host None = Some host
without_port others (Some (host, port)) = if list_all is_digit port then Some host else None

abbrev pub host_of : List ℕ → Option (List ℕ)
host_of authority = let others = without_user authority (split_first 64 authority) in without_port others (split_first 58 others)

-- the last label has only digits, as in an address; `so` says whether the label at the front of the octets has only digits so far
abbrev pub ends_in_number : Bool → List ℕ → Bool
ends_in_number so [] = so
ends_in_number so (x ∷ xs) = if x == 46 then ends_in_number true xs else ends_in_number (so && is_digit x) xs

abbrev pub is_host_octet : ℕ → Bool
is_host_octet x = is_letter x || (is_digit x || (x == 45 || x == 46))

-- "a host name specified as a fully qualified domain name": two or more labels of letters, digits and hyphens, the last of which is no number
abbrev pub is_full_name : List ℕ → Bool
is_full_name host = is_domain host && (list_any (λ x. x == 46) host && (list_all is_host_octet host && not (ends_in_number true host)))

abbrev pub placement_of_host : List ℕ → Option (List ℕ) → Placement
placement_of_host constraint None = Undefined
placement_of_host constraint (Some host) = if is_full_name host && is_host_constraint constraint then inside_if (is_within_host constraint host) else Undefined

abbrev pub placement_of_authority : List ℕ → Option (List ℕ) → Placement
placement_of_authority constraint None = Undefined
placement_of_authority constraint (Some authority) = placement_of_host constraint (host_of authority)

-- the placement of a uniformResourceIdentifier in a constraint, which "applies to the host part of the name"
abbrev pub resource_placement : List ℕ → List ℕ → Placement
resource_placement constraint uri = placement_of_authority constraint (authority_of uri)
