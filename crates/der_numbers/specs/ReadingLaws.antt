-- The octets that are read as an INTEGER of any length (X.690 8.3).
use Rattle.std.proofs.Common.{◌≡◌, ℕ, ◌<◌, ◌↔◌, Bool, true, false, if◌then◌else◌, nat_le, List, [], ◌∷◌, ℤ, Result, Ok, Err, refl, sym, ap, ◌∙◌, arith}
use Rattle.std.proofs.lemmas.Bool.Decides.{nat_tests}
use Rattle.der_tlv.specs.declared.error.ErrorKind.{ErrorKind}
use Rattle.der_elem.specs.Integer.{AreOctets, big_endian_number, natural_contents, integer_contents, twos_complement, is_redundant}
use Rattle.der_elem.specs.IntegerLaws.{integer_contents-some, integer_contents-needed}
use Rattle.der_elem.specs.IntegerReading.{has_needless_zero}
use Rattle.der_numbers.specs.AnyLength.{integer_or_fault, natural_or_fault}
use Rattle.der_numbers.specs.AnyLengthLaws.{integer_or_fault-ok, integer_contents-kept}
use Rattle.der_numbers.specs.UnsignedLaws.{natural_or_fault-contents, natural_contents-read}

-- octets are read exactly if they are the contents octets of an integer
abbrev pub IntegersAreRead : Type 0
IntegersAreRead = (c : List ℕ) → AreOctets c → ((integer_or_fault c ≡ Ok c) ↔ ((z : ℤ) × (c ≡ integer_contents z)))

-- octets are read exactly if they are the contents octets of a number that is not negative
abbrev pub NaturalsAreRead : Type 0
NaturalsAreRead = (c : List ℕ) → AreOctets c → ((natural_or_fault c ≡ Ok c) ↔ ((n : ℕ) × (c ≡ natural_contents n)))

-- if the octets are accepted, the test for an error is false
no_fault : {A : Type 0} (fault : Bool) (kind : ErrorKind) (rest : Result A ErrorKind) (v : A) → (if fault then Err kind else rest) ≡ Ok v → (fault ≡ false) × (rest ≡ Ok v)
no_fault true kind rest v e = absurd (cc)
no_fault false kind rest v e = (refl, e)

is_integer : (c : List ℕ) → AreOctets c → integer_or_fault c ≡ Ok c → (z : ℤ) × (c ≡ integer_contents z)
is_integer [] all ok = absurd (cc)
is_integer (first ∷ others) all ok = (twos_complement (first ∷ others), integer_contents-kept (first ∷ others) all (omega arith) (no_fault (is_redundant (first ∷ others)) _ _ (first ∷ others) ok).0)

is_natural : (c : List ℕ) → AreOctets c → natural_or_fault c ≡ Ok c → (n : ℕ) × (c ≡ natural_contents n)
is_natural [] all ok = absurd (cc)
is_natural (first ∷ others) all ok =
    let least = no_fault (has_needless_zero (first ∷ others)) _ _ (first ∷ others) ok in
    let positive = no_fault (nat_le 128 first) _ _ (first ∷ others) least.1 in
    let test = positive.0 in
    let small : first < 128 = grind (arith, nat_tests) in
    (big_endian_number (first ∷ others), natural_contents-read (first ∷ others) all (omega arith) small least.0)

pub integers-are_read : IntegersAreRead
integers-are_read c all = (is_integer c all, λ read. ap integer_or_fault read.1 ∙ integer_or_fault-ok (integer_contents read.0) (integer_contents-some read.0) (integer_contents-needed read.0) ∙ ap Ok (sym read.1))

pub naturals-are_read : NaturalsAreRead
naturals-are_read c all = (is_natural c all, λ read. ap natural_or_fault read.1 ∙ natural_or_fault-contents read.0 ∙ ap Ok (sym read.1))
