use Rattle.std.proofs.Common.{lit<, List, ℕ, subst}
use Rattle.der_tlv.specs.declared.encoding_rules.EncodingRules.TheVariants.{Der}
use Rattle.der_tlv.specs.declared.tag.Tag.TheVariants as tags
use Rattle.der_elem.specs.Accepting.{accepts_tagged}
use Rattle.der_pkcs.specs.contracts.request.certification_request_info.CertificationRequestInfoFormValue.TheImpl.{ghosts as form}
use Rattle.der_pkcs.specs.declared.request.certification_request_info.CertificationRequestInfo.{CertificationRequestInfo}
use Rattle.der_places.specs.Layout.{LaidOut}
use Rattle.der_places.specs.LayoutLaws.{first_laid, whole_stands}
use Rattle.der_places.specs.Walking.{StandAt}
use Rattle.der_places.specs.contracts.request.certification_request_info.CertificationRequestInfoPlaced.TheImpl.{ghosts as placed}
use Rattle.der_c.proofs.certification_request.certification_request_at.Goals as goal

pub returns-clause-parts : goal.returns-clause-parts
returns-clause-parts c read = c.places_of-parts.ensures tags.Sequence c.args.octets.now (lit< tt) read.accepted (whole_stands c.args.octets.now read.fits)

pub returns-clause-info : goal.returns-clause-info
returns-clause-info c read =
    let octets = c.args.octets.now in
    let whole = whole_stands octets read.fits in
    let outer = c.places_of-parts.ensures tags.Sequence octets (lit< tt) read.accepted whole in
    let place = c.places_of-parts.result.certification_request_info in
    let places = placed.listed c.places_of-info.result in
    let inner = subst (λ (t : CertificationRequestInfo). (o : List ℕ) → accepts_tagged tags.Sequence form.value.accepts Der t o → StandAt octets place.offset o → LaidOut (placed.layout t) place.offset places o) c.certification_request_info-signed.ensures (λ o r s. c.places_of-info.ensures tags.Sequence o (lit< tt) r s) in
    first_laid _ _ _ _ octets octets 0 _ _ _ outer whole inner
