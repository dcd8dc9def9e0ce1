-- Octets without some of the first ones.
use Rattle.std.proofs.Common.{◌≡◌, ℕ, zero, suc, ◌+◌, ◌-◌, ◌<◌, Bool, true, List, [], ◌∷◌, length, take, drop, sym, ap, ◌∙◌, arith}
use Rattle.std.proofs.lemmas.List.{drop-drop, length-drop}
use Rattle.std.proofs.Math.Seq.{take-length}
use Rattle.der_elem.specs.Integer.{AreOctets}

-- the octets that are left are octets
pub AreOctets-drop : (start : ℕ) (octets : List ℕ) → AreOctets octets → AreOctets (drop start octets)
AreOctets-drop zero octets all = all
AreOctets-drop (suc start) [] all = tt
AreOctets-drop (suc start) (octet ∷ octets) all = AreOctets-drop start octets all.1

-- the octets from an index on
pub from : (octets : List ℕ) (start : ℕ) → take (length octets - start) (drop start octets) ≡ drop start octets
from octets start = ap (λ n. take n (drop start octets)) (sym (length-drop start octets)) ∙ take-length (drop start octets)

-- one more octet is left out, if a test allows it
pub stripped_more : {A : Type 0} (test : List ℕ → Bool) (value : List ℕ → A) (law : (octets : List ℕ) → AreOctets octets → test octets ≡ true → (1 < length octets) × (value octets ≡ value (drop 1 octets))) (octets : List ℕ) (start : ℕ) → AreOctets octets → test (take (length octets - start) (drop start octets)) ≡ true → value (drop start octets) ≡ value octets → (start + 1 < length octets) × (value (drop (start + 1) octets) ≡ value octets)
stripped_more test value law octets start all redundant same =
    let left = law (drop start octets) (AreOctets-drop start octets all) (ap test (sym (from octets start)) ∙ redundant) in
    let more = left.0 in
    (omega (arith, length-drop start octets), ap value (sym (drop-drop 1 start octets)) ∙ sym left.1 ∙ same)
