-- Headers of two octets.
use Rattle.std.proofs.Common.{◌≡◌, ℕ, ◌<◌, [], ◌∷◌, ◌++◌, refl, ap, ◌∙◌}
use Rattle.der_tlv.specs.declared.tag.Tag.{Tag}
use Rattle.der_tlv.specs.TagParts.{class_of, is_constructed, number_of}
use Rattle.der_tlv.specs.Identifier.{first_octet}
use Rattle.der_tlv.specs.IdentifierLaws.{low_bits}
use Rattle.der_tlv.specs.LengthOctets.{length_octets}
use Rattle.der_tlv.specs.HeaderOctets.{header_octets}
use Rattle.der_tlv.proofs.TagOctets.{identifier_pushed}
use Rattle.der_tlv.proofs.LengthCounts.{short_pushed}

-- one identifier octet and one length octet
pub short_header : (t : Tag) (n octet : ℕ) → number_of t < 31 → n < 128 → octet ≡ first_octet (class_of t) (is_constructed t) (low_bits (number_of t)) → octet ∷ n ∷ [] ≡ header_octets t n
short_header t n octet small short e =
    short_pushed (octet ∷ []) (octet ∷ n ∷ []) n short refl ∙ ap (λ o. o ++ length_octets n) (identifier_pushed [] (octet ∷ []) t octet small e refl)
