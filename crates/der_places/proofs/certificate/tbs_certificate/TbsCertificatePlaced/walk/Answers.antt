use Rattle.std.proofs.Common.{◌≡◌, ◌∙◌, ◌++◌, [], ℕ, Bool, not, true, Option, ap, refl}
use Rattle.der_bits.specs.declared.bit_string_ref.BitStringRef.{BitStringRef}
use Rattle.der_elem.specs.Integer.{natural_contents}
use Rattle.der_fields.specs.Defaults.{is_default}
use Rattle.der_fields.specs.MarkerTags.{marker_tag}
use Rattle.der_pkix.specs.Certificate.TbsCertificate as tbs
use Rattle.der_pkix.specs.declared.certificate.extensions.Extensions.{Extensions}
use Rattle.der_tlv.specs.HeaderOctets.{tlv}
use Rattle.der_tlv.specs.declared.tag.Tag.TheVariants as tags
use Rattle.der_places.specs.Layout.{is_there}
use Rattle.der_places.specs.LayoutLaws.{told}
use Rattle.der_places.proofs.certificate.tbs_certificate.TbsCertificatePlaced.walk.Goals as goal

-- whether a version is the default, v1
abbrev default_at : ℕ → Bool
default_at n = is_default (tlv (marker_tag 2 true 0) (tlv tags.Integer (natural_contents 0))) (tlv (marker_tag 2 true 0) (tlv tags.Integer (natural_contents n) ++ []))

pub returns : goal.returns
returns c =
    let octets = c.args.octets.now in
    let value = c.args.self.now in
    let version = c.is_default-is_default in
    let version_told : not version.result ≡ not (default_at (tbs.version value)) = ap not (version.ensures ∙ ap default_at c.version-value.ensures) in
    let issuer_told : c.is_there.result ≡ is_there (tbs.issuer_unique_id value) = c.is_there.ensures ∙ ap (λ (o : Option BitStringRef). is_there o) c.issuer_unique_id.ensures in
    let subject_told : c.is_there-2.result ≡ is_there (tbs.subject_unique_id value) = c.is_there-2.ensures ∙ ap (λ (o : Option BitStringRef). is_there o) c.subject_unique_id.ensures in
    let extensions_told : c.is_there-3.result ≡ is_there (tbs.extensions value) = c.is_there-3.ensures ∙ ap (λ (o : Option Extensions). is_there o) c.extensions.ensures in (
      told octets c.args.start c.next_place-version.result (not version.result) (not (default_at (tbs.version value))) version_told c.next_place-version.ensures,
      (
        c.next_place-serial_number.ensures,
        (
          c.next_place-signature.ensures,
          (
            c.next_place-issuer.ensures,
            (
              c.next_place-validity.ensures,
              (
                c.next_place-subject.ensures,
                (
                  c.next_place-subject_public_key_info.ensures,
                  (
                    told octets c.next_place-subject_public_key_info.result c.next_place-issuer_unique_id.result c.is_there.result (is_there (tbs.issuer_unique_id value)) issuer_told c.next_place-issuer_unique_id.ensures,
                    (
                      told octets c.next_place-issuer_unique_id.result c.next_place-subject_unique_id.result c.is_there-2.result (is_there (tbs.subject_unique_id value)) subject_told c.next_place-subject_unique_id.ensures,
                      (
                        told octets c.next_place-subject_unique_id.result c.next_place-extensions.result c.is_there-3.result (is_there (tbs.extensions value)) extensions_told c.next_place-extensions.ensures,
                        refl,
                      ),
                    ),
                  ),
                ),
              ),
            ),
          ),
        ),
      ),
    )
