-- Host names compared with the dNSNames of a certificate (RFC 9525 section 6.3): ASCII letters in either case, and a wildcard, `*` (42), as "the complete content of the left-most label", for one label.
use Rattle.std.specs.Prelude.{ℕ, ◌==◌, List, [], ◌∷◌, Bool, false, ◌&&◌, if◌then◌else◌}
use Rattle.der_path.specs.Domains.{is_domain, same_letters}

-- a period (46) and a domain name
abbrev pub is_after_period : List ℕ → Bool
is_after_period [] = false
is_after_period (x ∷ xs) = x == 46 && is_domain xs

-- the octets after the first label
abbrev pub from_period : List ℕ → List ℕ
from_period [] = []
from_period (x ∷ xs) = if x == 46 then x ∷ xs else from_period xs

-- whether a dNSName names a host
abbrev pub names_host : List ℕ → List ℕ → Bool
names_host [] host = false
names_host (x ∷ xs) host =
    if x == 42
    then is_after_period xs && (is_domain host && same_letters xs (from_period host))
    else is_domain (x ∷ xs) && (is_domain host && same_letters (x ∷ xs) host)
