use Rattle.std.proofs.Common.{◌≡◌, ◌∙◌, Option, ap, refl}
use Rattle.der_cms.specs.Cms.SignerInfo as fields_of
use Rattle.der_cms.specs.declared.cms.signed_attributes.SignedAttributes.{SignedAttributes}
use Rattle.der_cms.specs.declared.cms.unsigned_attributes.UnsignedAttributes.{UnsignedAttributes}
use Rattle.der_places.specs.Layout.{is_there}
use Rattle.der_places.specs.LayoutLaws.{told}
use Rattle.der_places.proofs.cms.signer_info.SignerInfoPlaced.walk.Goals as goal

pub returns : goal.returns
returns c =
    let octets = c.args.octets.now in
    let value = c.args.self.now in
    let signed_told : c.is_there.result ≡ is_there (fields_of.signed_attrs value) = c.is_there.ensures ∙ ap (λ (o : Option SignedAttributes). is_there o) c.signed_attrs.ensures in
    let unsigned_told : c.is_there-2.result ≡ is_there (fields_of.unsigned_attrs value) = c.is_there-2.ensures ∙ ap (λ (o : Option UnsignedAttributes). is_there o) c.unsigned_attrs.ensures in (
      c.next_place-version.ensures,
      (
        c.next_place-sid.ensures,
        (
          c.next_place-digest_algorithm.ensures,
          (
            told octets c.next_place-digest_algorithm.result c.next_place-signed_attrs.result c.is_there.result (is_there (fields_of.signed_attrs value)) signed_told c.next_place-signed_attrs.ensures,
            (
              c.next_place-signature_algorithm.ensures,
              (
                c.next_place-signature.ensures,
                (
                  told octets c.next_place-signature.result c.next_place-unsigned_attrs.result c.is_there-2.result (is_there (fields_of.unsigned_attrs value)) unsigned_told c.next_place-unsigned_attrs.ensures,
                  refl,
                ),
              ),
            ),
          ),
        ),
      ),
    )
