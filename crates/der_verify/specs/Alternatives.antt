-- The names of subjectAltName and issuerAltName (RFC 5280 4.2.1.6): a GeneralName has the identifier 81 (rfc822Name), 82 (dNSName), 86 (uniformResourceIdentifier) or 87 (iPAddress), or another.
use Rattle.std.specs.Prelude.{ℕ, ◌+◌, ◌==◌, nat_le, nat_lt, List, [], ◌∷◌, length, Bool, false, true, not, ◌&&◌, ◌||◌, if◌then◌else◌}
use Rattle.der_verify.specs.declared.rfc5280.alternatives.Syntax.{Syntax}
use Rattle.der_verify.specs.declared.rfc5280.alternatives.Syntax.TheVariants.{Address, Host, Mailbox, Resource}
use Rattle.der_verify.specs.Elements.{one_is, within, Test}

abbrev pub is_letter : ℕ → Bool
is_letter x = (nat_le 65 x && nat_le x 90) || (nat_le 97 x && nat_le x 122)

abbrev pub is_letter_or_digit : ℕ → Bool
is_letter_or_digit x = is_letter x || (nat_le 48 x && nat_le x 57)

-- labels of letters, digits and hyphens (45), separated by periods (46): a label has at most 63 octets, and neither begins nor ends with a hyphen (RFC 1034 3.5, RFC 1123 2.1). `count` octets of the label stand before these, and `ends` says whether it may end after them
abbrev pub has_labels : ℕ → Bool → List ℕ → Bool
has_labels count ends [] = ends && nat_le count 63
has_labels count ends (x ∷ xs) =
    if is_letter_or_digit x then has_labels (count + 1) true xs
    else (if x == 45 then nat_lt 0 count && has_labels (count + 1) false xs
    else (if x == 46 then (ends && nat_le count 63) && has_labels 0 false xs
    else false))

-- the octets without `*.` at their front, of which RFC 5280 says nothing
abbrev pub after_wildcard : List ℕ → List ℕ
after_wildcard [] = []
after_wildcard (x ∷ []) = x ∷ []
after_wildcard (x ∷ (y ∷ rest)) = if x == 42 && y == 46 then rest else x ∷ (y ∷ rest)

-- "the name MUST be in the 'preferred name syntax'"
abbrev pub is_host : List ℕ → Bool
is_host octets = has_labels 0 false (after_wildcard octets)

-- an @ (64) with an octet after it
abbrev pub has_at : List ℕ → Bool
has_at [] = false
has_at (x ∷ xs) = (x == 64 && nat_lt 0 (length xs)) || has_at xs

-- "Local-part "@" Domain", neither empty
abbrev pub is_mailbox : List ℕ → Bool
is_mailbox [] = false
is_mailbox (x ∷ xs) = has_at xs

-- the rest of a scheme, a colon (58) and an octet after it
abbrev pub has_colon : List ℕ → Bool
has_colon [] = false
has_colon (x ∷ xs) = if x == 58 then nat_lt 0 (length xs) else ((is_letter_or_digit x || (x == 43 || (x == 45 || x == 46))) && has_colon xs)

-- "both a scheme (e.g., 'http' or 'ftp') and a scheme-specific-part" (RFC 3986 3.1)
abbrev pub has_scheme : List ℕ → Bool
has_scheme [] = false
has_scheme (x ∷ xs) = is_letter x && has_colon xs

-- "MUST contain exactly four octets", of version 6 "exactly sixteen octets"
abbrev pub is_address : List ℕ → Bool
is_address octets = length octets == 4 || length octets == 16

-- a name of this kind, without its syntax
abbrev pub lacks : Syntax → Test
lacks Mailbox i contents others = i == 129 && not (is_mailbox contents)
lacks Host i contents others = i == 130 && not (is_host contents)
lacks Resource i contents others = i == 134 && not (has_scheme contents)
lacks Address i contents others = i == 135 && not (is_address contents)

-- whether one of the GeneralNames is of this kind, and lacks its syntax
abbrev pub one_lacks : Syntax → List ℕ → Bool
one_lacks syntax value = one_is (lacks syntax) (within 48 value)
