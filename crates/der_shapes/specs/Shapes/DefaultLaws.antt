-- How the defaults of Shapes are made, and told from other values.
-- Made by tools/asn1 from shapes.asn1.
use Rattle.std.proofs.Common.{◌<◌, ◌↔◌, ◌∷◌, ◌≡◌, ◌≤◌, Bool, IsTrue, List, [], arith, false, if◌then◌else◌, length, nat_eq, refl, slice_index, sym, true, ℕ}
use Rattle.std.proofs.lemmas.Bool.{false_from_ne_true}
use Rattle.std.specs.Cmp.Lexicographic.{bytes_decides, pointwise}
use Rattle.std.specs.Prelude.{◌==◌}
use Rattle.der_elem.specs.Integer.{AreOctets, big_endian_number, integer_contents, natural_contents, twos_complement}
use Rattle.der_elem.specs.IntegerLaws.{integer_contents-shortest, natural_contents-shortest}
use Rattle.der_fields.specs.Defaults.{is_default}
use Rattle.der_numbers.specs.AnyLength.{without_sign_octet}

-- a test that holds exactly where an encoding is the default's says whether it is
pub told_by_equality : (default octets : List ℕ) (test : Bool) → (IsTrue test ↔ (octets ≡ default)) → test ≡ is_default default octets
told_by_equality default octets true h = sym ((bytes_decides octets default).1 (h.0 refl))
told_by_equality default octets false h = sym (false_from_ne_true (pointwise nat_eq octets default) (λ e. let told = h.1 ((bytes_decides octets default).0 e) in absurd (cc)))

-- the fewest contents octets of an INTEGER are no more than these
pub integer_within : (octets : List ℕ) → AreOctets octets → 0 < length octets → length (integer_contents (twos_complement octets)) ≤ length octets
integer_within octets all some = integer_contents-shortest (twos_complement octets) octets all some refl

-- contents octets without a 00 that only says that a number is not negative are no more
either_within : (b : Bool) (first second : ℕ) (others : List ℕ) → length (if b then second ∷ others else first ∷ second ∷ others) ≤ length (first ∷ second ∷ others)
either_within true first second others = omega arith
either_within false first second others = omega arith

stripped_within : (octets : List ℕ) → length (without_sign_octet octets) ≤ length octets
stripped_within [] = omega arith
stripped_within (first ∷ []) = omega arith
stripped_within (first ∷ second ∷ others) = either_within (first == 0) first second others

-- so are the fewest octets of a number
pub natural_within : (octets : List ℕ) → AreOctets octets → 0 < length octets → slice_index octets 0 < 128 → length (without_sign_octet (natural_contents (big_endian_number octets))) ≤ length octets
natural_within octets all some small =
    let fewest : length (natural_contents (big_endian_number octets)) ≤ length octets = natural_contents-shortest octets all some small in
    let stripped : length (without_sign_octet (natural_contents (big_endian_number octets))) ≤ length (natural_contents (big_endian_number octets)) = stripped_within (natural_contents (big_endian_number octets)) in
    omega arith
