-- Addresses of the Internet and their constraints (RFC 5280 section 4.2.1.10): an address and a mask, "in the style of RFC 4632 (CIDR)".
use Rattle.std.specs.Prelude.{ℕ, ◌==◌, ◌/◌, bit_and, List, [], ◌∷◌, length, take, drop, Bool, true, false, ◌&&◌, ◌||◌, if◌then◌else◌}
use Rattle.std.specs.List.{list_all, list_any}
use Rattle.der_path.specs.declared.placement.Placement.{Placement}
use Rattle.der_path.specs.declared.placement.Placement.TheVariants.{Undefined}
use Rattle.der_path.specs.Placement.{inside_if}

-- an address of version 4 has four octets, and one of version 6 has sixteen (4.2.1.6)
abbrev pub is_address : List ℕ → Bool
is_address octets = length octets == 4 || length octets == 16

-- the first bits of an octet are ones, and the others are zeros; for all octets but 255, which is all ones
abbrev pub is_part_of_mask : ℕ → Bool
is_part_of_mask x = list_any (λ y. x == y) (0 ∷ 128 ∷ 192 ∷ 224 ∷ 240 ∷ 248 ∷ 252 ∷ 254 ∷ [])

-- the first bits of the octets are ones, and the others are zeros
abbrev pub is_mask : List ℕ → Bool
is_mask [] = true
is_mask (x ∷ xs) = if x == 255 then is_mask xs else is_part_of_mask x && list_all (λ x. x == 0) xs

-- the bits under the mask are those of the address
abbrev pub is_covered : List ℕ → List ℕ → List ℕ → Bool
is_covered [] mask name = length mask == 0 && length name == 0
is_covered (a ∷ address) [] name = false
is_covered (a ∷ address) (m ∷ mask) [] = false
is_covered (a ∷ address) (m ∷ mask) (x ∷ name) = bit_and x m == bit_and a m && is_covered address mask name

-- an address of version 4 or 6, and a mask of the same length
abbrev pub is_range : List ℕ → Bool
is_range constraint = (length constraint == 8 || length constraint == 32) && is_mask (drop (length constraint / 2) constraint)

-- the placement of an iPAddress in a constraint
abbrev pub address_placement : List ℕ → List ℕ → Placement
address_placement constraint name =
    if is_address name && is_range constraint
    then inside_if (is_covered (take (length constraint / 2) constraint) (drop (length constraint / 2) constraint) name)
    else Undefined
