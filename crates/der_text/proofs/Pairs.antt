-- Octets in pairs.
use Rattle.std.proofs.Common.{◌≡◌, ℕ, ◌+◌, ◌*◌, ◌/◌, ◌%◌, List, [], ◌∷◌, ◌++◌, length, refl, ap, arith}
use Rattle.der_text.specs.BmpUnits.{units}

-- the number of units is half that of octets
pub units_len : (octets : List ℕ) → length (units octets) ≡ length octets / 2
units_len [] = refl
units_len (octet ∷ []) = refl
units_len (high ∷ low ∷ octets) = let less : length (units octets) ≡ length octets / 2 = units_len octets in omega arith

-- one more unit
pub units_more : (octets : List ℕ) (high low : ℕ) → length octets % 2 ≡ 0 → units (octets ++ high ∷ low ∷ []) ≡ units octets ++ (high * 256 + low) ∷ []
units_more [] high low e = refl
units_more (octet ∷ []) high low e = absurd (omega arith)
units_more (x ∷ y ∷ octets) high low e = ap (λ us. (x * 256 + y) ∷ us) (units_more octets high low (omega arith))
