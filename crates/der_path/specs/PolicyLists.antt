-- Policies as the encodings of their identifiers, one after another.
use Rattle.std.specs.Prelude.{◌≡◌, ◌⊎◌, ℕ, ◌<◌, ◌≤◌, ◌^◌, List, length, false}
use Rattle.der_tlv.specs.declared.encoding_rules.EncodingRules.TheVariants.{Der}
use Rattle.der_tlv.specs.declared.error.ErrorKind.{ErrorKind}
use Rattle.der_tlv.specs.declared.error.ErrorKind.TheVariants as kinds
use Rattle.der_tlv.specs.declared.tag.Tag.TheVariants as tags
use Rattle.der_tlv.specs.HeaderOctets.{tlv}
use Rattle.der_elem.specs.Decoding.{Faults}
use Rattle.der_elem.specs.declared.form.Form as form
use Rattle.der_nest.specs.BorrowedSequences.{items_format}
use Rattle.der_opaque.specs.ObjectIdentifierRef.{octets_of}
use Rattle.der_opaque.specs.declared.object_identifier_ref.ObjectIdentifierRef.{ObjectIdentifierRef}
use Rattle.der_verify.specs.Shown.{AreShown}
use Rattle.der_path.specs.declared.policy.Policy.{Policy}

-- the policy with an identifier
abbrev pub ShowsIdentifier : ObjectIdentifierRef 39 → Policy → Type 0
ShowsIdentifier v p = p.octets.now ≡ octets_of v

-- the octets are the encodings of the identifiers of these policies
abbrev pub ArePolicies : form.Ghosts (ObjectIdentifierRef 39) → List ℕ → List Policy → Type 0
ArePolicies F octets policies = AreShown F ShowsIdentifier octets policies

-- memory ran out, or this is the first error of the encodings; 7 for more octets than a length can count
abbrev pub IsNoList : form.Ghosts (ObjectIdentifierRef 39) → List ℕ → ErrorKind → Type 0
IsNoList F octets kind =
    (kind ≡ kinds.Memory)
    ⊎ ((length octets < 2 ^ 32 → Faults F.TAKES_MEMORY false ((items_format F).parse Der 0 octets) kind)
    × (2 ^ 32 ≤ length octets → kind ≡ kinds.Length tags.OctetString))

-- the encoding of the identifier of a policy (X.690 8.19)
abbrev pub policy_octets : Policy → List ℕ
policy_octets p = tlv tags.ObjectIdentifier p.octets.now
