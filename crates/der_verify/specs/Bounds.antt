-- The number of characters that the text of an attribute of a name may have, by the module and the upper bounds of RFC 5280 appendix A.1.
use Rattle.std.specs.Prelude.{ℕ, nat_eq, nat_le, nat_lt, List, [], ◌∷◌, length, filter, Bool, ◌||◌, if◌then◌else◌}
use Rattle.std.specs.List.{list_any}
use Rattle.std.specs.Cmp.Lexicographic.{pointwise}

-- id-at n: 2.5.4.n, as contents octets
abbrev pub id_at : ℕ → List ℕ
id_at n = 85 ∷ 4 ∷ n ∷ []

-- 0.9.2342.19200300.100.1.25
abbrev pub domain_component : List ℕ
domain_component = 9 ∷ 146 ∷ 38 ∷ 137 ∷ 147 ∷ 242 ∷ 44 ∷ 100 ∷ 1 ∷ 25 ∷ []

-- 1.2.840.113549.1.9.1
abbrev pub email_address : List ℕ
email_address = 42 ∷ 134 ∷ 72 ∷ 134 ∷ 247 ∷ 13 ∷ 1 ∷ 9 ∷ 1 ∷ []

-- whether an identifier is equal to another
abbrev pub is : List ℕ → List ℕ → Bool
is identifier type = pointwise nat_eq type identifier

-- whether it is id-at and one of these numbers
unfoldable pub is_id_at : List ℕ → List ℕ → Bool
is_id_at numbers type = list_any (λ n. is (id_at n) type) numbers

-- the fewest characters: none for dnQualifier and domainComponent, which have no SIZE, two for countryName, and else one
unfoldable pub fewest : List ℕ → ℕ
fewest type =
    if is domain_component type || is_id_at (46 ∷ []) type then 0
    else (if is_id_at (6 ∷ []) type then 2
    else 1)

-- the most characters (A.1, upper bounds): ub-common-name, ub-serial-number, ub-organization-name, ub-organizational-unit-name and ub-title are 64; ub-locality-name, ub-state-name and ub-pseudonym 128; ub-emailaddress-length 255; ub-name 32768; with no bound, the greatest length
unfoldable pub most : List ℕ → ℕ
most type =
    if is_id_at (6 ∷ []) type then 2
    else (if is_id_at (3 ∷ 5 ∷ 10 ∷ 11 ∷ 12 ∷ []) type then 64
    else (if is_id_at (7 ∷ 8 ∷ 65 ∷ []) type then 128
    else (if is email_address type then 255
    else (if is_id_at (4 ∷ 41 ∷ 42 ∷ 43 ∷ 44 ∷ []) type then 32768
    else 4294967295))))

-- an octet that begins a character in UTF-8 (RFC 3629 section 3)
abbrev pub begins_character : ℕ → Bool
begins_character octet = nat_lt octet 128 || nat_le 192 octet

-- the number of characters in a text
abbrev pub character_count : List ℕ → ℕ
character_count text = length (filter begins_character text)
