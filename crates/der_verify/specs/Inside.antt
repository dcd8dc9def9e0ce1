-- The values of extensions that rules look into (RFC 5280 4.2.1, 5.2, 5.3). A value that is a SEQUENCE has the identifier 30 (48), a BIT STRING 03, an INTEGER 02 and an OBJECT IDENTIFIER 06; a field [0] has 80 (128), or A0 (160) if there are encodings in it.
use Rattle.std.specs.Prelude.{ℕ, ◌+◌, ◌*◌, ◌/◌, ◌%◌, ◌==◌, nat_eq, nat_le, nat_lt, List, [], ◌∷◌, length, Bool, false, not, ◌&&◌, ◌||◌, Option, Some, None}
use Rattle.std.specs.Bool.{beq}
use Rattle.std.specs.List.{list_any}
use Rattle.std.specs.Cmp.Lexicographic.{pointwise}
use Rattle.der_verify.specs.Elements.{front_of, has_identifier, one_is, within, Test}

-- 4.2.1.9: pathLenConstraint, the INTEGER of BasicConstraints
abbrev pub has_path_length : List ℕ → Bool
has_path_length value = has_identifier 2 (within 48 value)

-- 4.2.1.3: the octets of the bits of keyUsage, after the number of unused bits (X.690 8.6.2.2)
abbrev pub bits_of : List ℕ → List ℕ
bits_of [] = []
bits_of (unused ∷ bits) = bits

-- the bit 5 (keyCertSign), 04 of the first octet (8.6.2.1)
abbrev pub has_bit_5 : List ℕ → Bool
has_bit_5 [] = false
has_bit_5 (x ∷ xs) = x / 4 % 2 == 1

abbrev pub signs_certificates : List ℕ → Bool
signs_certificates value = has_bit_5 (bits_of (within 3 value))

abbrev pub has_one_bit : List ℕ → Bool
has_one_bit value = list_any (λ x. not (x == 0)) (bits_of (within 3 value))

-- 4.2.1.1: keyIdentifier is [0]
abbrev pub has_key_identifier : List ℕ → Bool
has_key_identifier value = has_identifier 128 (within 48 value)

-- A.2: authorityCertIssuer is [1], and authorityCertSerialNumber [2]
abbrev pub has_half_an_issuer : List ℕ → Bool
has_half_an_issuer value = not (beq (has_identifier 161 (within 48 value)) (has_identifier 130 (within 48 value)))

-- an empty SEQUENCE, 30 00
abbrev pub is_empty_sequence : List ℕ → Bool
is_empty_sequence value = pointwise nat_eq value (48 ∷ 0 ∷ [])

-- 4.2.1.10: something stands in a GeneralSubtree after its base: a minimum that is not 0, or a maximum
abbrev pub has_distance_after : Option (ℕ × List ℕ × List ℕ) → Bool
has_distance_after None = false
has_distance_after (Some (identifier, contents, others)) = nat_lt 0 (length others)

abbrev pub has_distance : List ℕ → Bool
has_distance subtree = has_distance_after (front_of subtree)

-- the base is an iPAddress [7] of other than 8 or 32 octets
abbrev pub is_odd_address : Option (ℕ × List ℕ × List ℕ) → Bool
is_odd_address None = false
is_odd_address (Some (identifier, contents, others)) = identifier == 135 && not (length contents == 8 || length contents == 32)

abbrev pub has_odd_address : List ℕ → Bool
has_odd_address subtree = is_odd_address (front_of subtree)

-- 4.2.1.4: the identifier of the policy is that of one after it
abbrev pub has_policy : List ℕ → Test
has_policy policy i contents others = pointwise nat_eq (within 6 contents) policy

abbrev pub is_repeated : Test
is_repeated i contents others = one_is (has_policy (within 6 contents)) others

abbrev pub repeats_policy : List ℕ → Bool
repeats_policy value = one_is is_repeated (within 48 value)

-- 4.2.1.5: one of the two policies is anyPolicy, 2.5.29.32.0
abbrev pub is_any_policy : Test
is_any_policy i contents others = i == 6 && pointwise nat_eq contents (85 ∷ 29 ∷ 32 ∷ 0 ∷ [])

abbrev pub maps_any : Test
maps_any i contents others = one_is is_any_policy contents

abbrev pub maps_any_policy : List ℕ → Bool
maps_any_policy value = one_is maps_any (within 48 value)

-- 4.2.1.13: neither distributionPoint [0] nor cRLIssuer [2]
abbrev pub is_nowhere : Test
is_nowhere i contents others = not (has_identifier 160 contents || has_identifier 162 contents)

abbrev pub has_point_nowhere : List ℕ → Bool
has_point_nowhere value = one_is is_nowhere (within 48 value)

-- 5.2.5: onlyContainsUserCerts [1], onlyContainsCACerts [2] and onlyContainsAttributeCerts [5], of which two are TRUE (FF)
abbrev pub is_true : ℕ → Test
is_true identifier i contents others = i == identifier && pointwise nat_eq contents (255 ∷ [])

abbrev pub says : ℕ → List ℕ → Bool
says identifier value = one_is (is_true identifier) (within 48 value)

abbrev pub has_two_kinds : List ℕ → Bool
has_two_kinds value = (says 129 value && (says 130 value || says 133 value)) || (says 130 value && says 133 value)

-- 5.2.3: an INTEGER that is negative, or has more than 20 octets
abbrev pub is_negative : List ℕ → Bool
is_negative [] = false
is_negative (x ∷ xs) = nat_le 128 x

abbrev pub is_odd_number : List ℕ → Bool
is_odd_number value = is_negative (within 2 value) || nat_lt 20 (length (within 2 value))

-- 5.1.2.6: a GeneralizedTime (24) with a year through 2049; 55377 are its digits in ASCII, times 1000, 100, 10 and 1
abbrev pub begins_early : List ℕ → Bool
begins_early (a ∷ (b ∷ (c ∷ (d ∷ text)))) = nat_le (a * 1000 + b * 100 + c * 10 + d) 55377
begins_early _ = false

abbrev pub is_early_date : Test
is_early_date i contents others = i == 24 && begins_early contents

abbrev pub is_early_entry : Test
is_early_entry i contents others = one_is is_early_date contents

-- one of the entries of a list has such a revocationDate
abbrev pub has_early_date : List ℕ → Bool
has_early_date entries = one_is is_early_entry entries

-- 5.3.1: removeFromCRL (8), an ENUMERATED
abbrev pub is_removed : List ℕ → Bool
is_removed value = pointwise nat_eq value (10 ∷ 1 ∷ 8 ∷ [])
