use Rattle.std.proofs.Common.{lit<, List, ℕ, subst}
use Rattle.der_tlv.specs.declared.encoding_rules.EncodingRules.TheVariants.{Der}
use Rattle.der_tlv.specs.declared.tag.Tag.TheVariants as tags
use Rattle.der_elem.specs.Accepting.{accepts_tagged}
use Rattle.der_pkix.specs.contracts.crl.tbs_cert_list.TbsCertListFormValue.TheImpl.{ghosts as form}
use Rattle.der_pkix.specs.declared.crl.tbs_cert_list.TbsCertList.{TbsCertList}
use Rattle.der_places.specs.Layout.{LaidOut}
use Rattle.der_places.specs.LayoutLaws.{first_laid, whole_stands}
use Rattle.der_places.specs.Walking.{StandAt}
use Rattle.der_places.specs.contracts.crl.tbs_cert_list.TbsCertListPlaced.TheImpl.{ghosts as placed}
use Rattle.der_c.proofs.certificate_list.certificate_list_at.Goals as goal

pub returns-clause-parts : goal.returns-clause-parts
returns-clause-parts c read = c.places_of-parts.ensures tags.Sequence c.args.octets.now (lit< tt) read.accepted (whole_stands c.args.octets.now read.fits)

pub returns-clause-tbs : goal.returns-clause-tbs
returns-clause-tbs c read =
    let octets = c.args.octets.now in
    let whole = whole_stands octets read.fits in
    let outer = c.places_of-parts.ensures tags.Sequence octets (lit< tt) read.accepted whole in
    let place = c.places_of-parts.result.tbs_cert_list in
    let places = placed.listed c.places_of-tbs.result in
    let inner = subst (λ (t : TbsCertList). (o : List ℕ) → accepts_tagged tags.Sequence form.value.accepts Der t o → StandAt octets place.offset o → LaidOut (placed.layout t) place.offset places o) c.tbs_cert_list-signed.ensures (λ o r s. c.places_of-tbs.ensures tags.Sequence o (lit< tt) r s) in
    first_laid _ _ _ _ octets octets 0 _ _ _ outer whole inner
