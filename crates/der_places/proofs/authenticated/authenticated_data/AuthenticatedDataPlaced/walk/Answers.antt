use Rattle.std.proofs.Common.{◌≡◌, ◌∙◌, Option, ap, refl}
use Rattle.der_cms.specs.declared.cms.signed_attributes.SignedAttributes.{SignedAttributes}
use Rattle.der_cms.specs.declared.cms.unsigned_attributes.UnsignedAttributes.{UnsignedAttributes}
use Rattle.der_enveloped.specs.Authenticated.AuthenticatedData as fields_of
use Rattle.der_enveloped.specs.declared.enveloped.originator_info.OriginatorInfo.{OriginatorInfo}
use Rattle.der_pkix.specs.declared.algorithm_identifier.AlgorithmIdentifier.{AlgorithmIdentifier}
use Rattle.der_places.specs.Layout.{is_there}
use Rattle.der_places.specs.LayoutLaws.{told}
use Rattle.der_places.proofs.authenticated.authenticated_data.AuthenticatedDataPlaced.walk.Goals as goal

pub returns : goal.returns
returns c =
    let octets = c.args.octets.now in
    let value = c.args.self.now in
    let originator_told : c.is_there.result ≡ is_there (fields_of.originator_info value) = c.is_there.ensures ∙ ap (λ (o : Option OriginatorInfo). is_there o) c.originator_info.ensures in
    let digest_told : c.is_there-2.result ≡ is_there (fields_of.digest_algorithm value) = c.is_there-2.ensures ∙ ap (λ (o : Option AlgorithmIdentifier). is_there o) c.digest_algorithm.ensures in
    let signed_told : c.is_there-3.result ≡ is_there (fields_of.auth_attrs value) = c.is_there-3.ensures ∙ ap (λ (o : Option SignedAttributes). is_there o) c.auth_attrs.ensures in
    let unsigned_told : c.is_there-4.result ≡ is_there (fields_of.unauth_attrs value) = c.is_there-4.ensures ∙ ap (λ (o : Option UnsignedAttributes). is_there o) c.unauth_attrs.ensures in (
      c.next_place-version.ensures,
      (
        told octets c.next_place-version.result c.next_place-originator_info.result c.is_there.result (is_there (fields_of.originator_info value)) originator_told c.next_place-originator_info.ensures,
        (
          c.next_place-recipient_infos.ensures,
          (
            c.next_place-mac_algorithm.ensures,
            (
              told octets c.next_place-mac_algorithm.result c.next_place-digest_algorithm.result c.is_there-2.result (is_there (fields_of.digest_algorithm value)) digest_told c.next_place-digest_algorithm.ensures,
              (
                c.next_place-encap_content_info.ensures,
                (
                  told octets c.next_place-encap_content_info.result c.next_place-auth_attrs.result c.is_there-3.result (is_there (fields_of.auth_attrs value)) signed_told c.next_place-auth_attrs.ensures,
                  (
                    c.next_place-mac.ensures,
                    (
                      told octets c.next_place-mac.result c.next_place-unauth_attrs.result c.is_there-4.result (is_there (fields_of.unauth_attrs value)) unsigned_told c.next_place-unauth_attrs.ensures,
                      refl,
                    ),
                  ),
                ),
              ),
            ),
          ),
        ),
      ),
    )
