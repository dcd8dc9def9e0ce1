-- The byte ranges of what has to verify of each certificate of a chain (RFC 5280 6.1.3 (a)(1)).
use Rattle.std.specs.Prelude.{◌≡◌, ℕ, List, [], ◌∷◌, Option, Some, None}
use Rattle.der_tlv.specs.declared.encoding_rules.EncodingRules.TheVariants.{Der}
use Rattle.der_elem.specs.declared.form.Form as form
use Rattle.der_opaque.specs.ObjectIdentifierRef.{octets_of}
use Rattle.der_pkix.specs.Certificate.Certificate as certificate
use Rattle.der_pkix.specs.Certificate.SubjectPublicKeyInfo as key_fields
use Rattle.der_pkix.specs.declared.certificate.certificate.Certificate.{Certificate}
use Rattle.der_places.specs.declared.place.Place.{Place}
use Rattle.der_path.specs.declared.keys.WorkingKey.{WorkingKey}
use Rattle.der_path.specs.Keys.{next_key}
use Rattle.der_c.specs.contracts.path.meanings.MeaningsMeantAlgorithmIdentifier.TheImpl as algorithm_form
use Rattle.der_c.specs.contracts.path.meanings.MeaningsMeantAnyRef.TheImpl as any_form
use Rattle.der_c.specs.contracts.path.meanings.MeaningsMeantBitStringRef.TheImpl as bit_string_form
use Rattle.der_c.specs.contracts.path.meanings.MeaningsMeantCertificate.TheImpl as certificate_form
use Rattle.der_c.specs.contracts.path.meanings.MeaningsMeantSubjectPublicKeyInfo.TheImpl as key_form
use Rattle.der_c.specs.contracts.path.meanings.MeaningsMeantTbsCertificate.TheImpl as tbs_form
use Rattle.der_c.specs.declared.path.places.KeyAt.{KeyAt}
use Rattle.der_c.specs.declared.path.places.VerificationAt.{VerificationAt}
use Rattle.der_c.specs.Building.{IsAt, IsWithin, octets_at}

-- the octets at a byte range encode a value
pub record Holds {T : Type 0} (F : form.Ghosts T) (octets : List ℕ) (place : Place) (v : T) : Type 0 where
  pub within : IsWithin octets place
  pub accepted : F.accepts Der v (octets_at octets place)

-- the same of a value that may be absent: its byte range is then empty
abbrev pub HoldsIfThere : {T : Type 0} → form.Ghosts T → List ℕ → Place → Option T → Type 0
HoldsIfThere F octets place None = place.length ≡ 0
HoldsIfThere F octets place (Some v) = Holds F octets place v

-- the working key is at these byte ranges
pub record HoldsKey (octets : List ℕ) (w : WorkingKey) (at : KeyAt) : Type 0 where
  pub key : Holds key_form.ghosts.FORM octets at.key w.key
  pub algorithm : at.algorithm.now ≡ octets_of (key_fields.algorithm w.key).oid
  pub parameters : HoldsIfThere any_form.ghosts.FORM octets at.parameters w.parameters

-- what has to verify of a certificate with the working key
pub record IsPlaced (octets : List ℕ) (w : WorkingKey) (c : Certificate) (at : VerificationAt) : Type 0 where
  pub signed : Holds tbs_form.ghosts.FORM octets at.signed_octets (certificate.tbs_certificate c)
  pub algorithm : Holds algorithm_form.ghosts.FORM octets at.algorithm (certificate.signature_algorithm c)
  pub signature : Holds bit_string_form.ghosts.FORM octets at.signature (certificate.signature_value c)
  pub key : Holds key_form.ghosts.FORM octets at.key w.key
  pub parameters : HoldsIfThere any_form.ghosts.FORM octets at.parameters w.parameters

-- from a certificate on, each with the working key after the one before (6.1.4 (d) to (f))
abbrev pub EachPlaced : List ℕ → WorkingKey → List Certificate → List VerificationAt → Type 0
EachPlaced octets w [] [] = Unit {0}
EachPlaced octets w (c ∷ cs) (at ∷ ats) = IsPlaced octets w c at × EachPlaced octets (next_key c w) cs ats
EachPlaced octets w [] (at ∷ ats) = ⊥
EachPlaced octets w (c ∷ cs) [] = ⊥

-- each value is read from its byte range
abbrev pub EachOf : {T : Type 0} → form.Ghosts T → List ℕ → List Place → List T → Type 0
EachOf F octets [] [] = Unit {0}
EachOf F octets (place ∷ places) (v ∷ vs) = IsAt F octets place v × EachOf F octets places vs
EachOf F octets [] (v ∷ vs) = ⊥
EachOf F octets (place ∷ places) [] = ⊥

abbrev pub EachAt : List ℕ → List Place → List Certificate → Type 0
EachAt octets places cs = EachOf certificate_form.ghosts.FORM octets places cs
