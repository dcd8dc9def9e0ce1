-- The octets of signed attributes that are hashed (RFC 5652 5.4).
use Rattle.std.specs.Prelude.{◌≡◌, ◌⊎◌, ℕ, ◌<◌, List, [], ◌∷◌, Option, Some, None}
use Rattle.std.specs.Borrow.{Bor}
use Rattle.der_places.specs.declared.place.Place.{Place}
use Rattle.der_c.specs.Answers.{fault_of_call}
use Rattle.der_c.specs.Building.{NotWritten, octets_at}
use Rattle.der_c.specs.Items.{EndsWithin}
use Rattle.der_c.specs.Rooms.{Written}
use Rattle.der_c.specs.declared.fault.Fault.{Fault}

-- "The IMPLICIT [0] tag in the signedAttrs is not used": the identifier octet is that of a SET OF (49)
abbrev pub with_set_tag : List ℕ → List ℕ
with_set_tag [] = []
with_set_tag (identifier ∷ others) = 49 ∷ others

-- octets at a byte range that is not empty and ends within the octets
pub record AreThere (octets : List ℕ) (place : Place) (own : List ℕ) : Type 0 where
  pub some : 0 < place.length
  pub within : EndsWithin octets place
  pub are : own ≡ octets_at octets place

-- a byte range with octets does not end within the octets, or has none
abbrev pub AreNotThere : List ℕ → Place → Type 0
AreNotThere octets place = 0 < place.length → EndsWithin octets place → ⊥

abbrev pub FindsOctets : List ℕ → Place → Option (Bor (List ℕ)) → Type 0
FindsOctets octets place None = AreNotThere octets place
FindsOctets octets place (Some own) = AreThere octets place own.now

-- the octets at the byte range are written with the tag of a SET OF; or no octets are there (100), and the buffer and the count are unchanged
abbrev pub AnswersSigned : List ℕ → Place → List ℕ → List ℕ → ℕ → ℕ → Fault → Fault → ℕ → Type 0
AnswersSigned octets place old new old_count count old_fault fault answer =
    ((own : List ℕ) × AreThere octets place own × Written (with_set_tag own) old new count old_fault fault answer)
    ⊎ (AreNotThere octets place × (fault ≡ fault_of_call 100) × NotWritten old new old_count count fault answer)
