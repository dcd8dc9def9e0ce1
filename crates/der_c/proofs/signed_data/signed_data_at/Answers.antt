use Rattle.std.proofs.Common.{lit<, List, ℕ, subst}
use Rattle.der_tlv.specs.declared.encoding_rules.EncodingRules.TheVariants.{Der}
use Rattle.der_tlv.specs.declared.tag.Tag.TheVariants as tags
use Rattle.der_elem.specs.Accepting.{accepts_tagged}
use Rattle.der_cms.specs.contracts.cms.encapsulated_content_info.EncapsulatedContentInfoFormValue.TheImpl.{ghosts as form}
use Rattle.der_cms.specs.declared.cms.encapsulated_content_info.EncapsulatedContentInfo.{EncapsulatedContentInfo}
use Rattle.der_places.specs.Layout.{LaidOut}
use Rattle.der_places.specs.LayoutLaws.{third_laid, whole_stands}
use Rattle.der_places.specs.Walking.{StandAt}
use Rattle.der_places.specs.contracts.cms.encapsulated_content_info.EncapsulatedContentInfoPlaced.TheImpl.{ghosts as placed}
use Rattle.der_c.proofs.signed_data.signed_data_at.Goals as goal

pub returns-clause-fields : goal.returns-clause-fields
returns-clause-fields c read = c.places_of-fields.ensures tags.Sequence c.args.octets.now (lit< tt) read.accepted (whole_stands c.args.octets.now read.fits)

pub returns-clause-content : goal.returns-clause-content
returns-clause-content c read =
    let octets = c.args.octets.now in
    let whole = whole_stands octets read.fits in
    let outer = c.places_of-fields.ensures tags.Sequence octets (lit< tt) read.accepted whole in
    let place = c.places_of-fields.result.encap_content_info in
    let places = placed.listed c.places_of-content.result in
    let inner = subst (λ (t : EncapsulatedContentInfo). (o : List ℕ) → accepts_tagged tags.Sequence form.value.accepts Der t o → StandAt octets place.offset o → LaidOut (placed.layout t) place.offset places o) c.encap_content_info-encapsulated.ensures (λ o r s. c.places_of-content.ensures tags.Sequence o (lit< tt) r s) in
    third_laid _ _ _ _ _ _ _ _ octets octets 0 _ _ _ _ _ outer whole inner
