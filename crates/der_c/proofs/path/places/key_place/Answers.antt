-- The seventh field of the first field of a certificate.
use Rattle.std.proofs.Common.{lit<, zero, suc, List, ℕ, subst}
use Rattle.der_tlv.specs.declared.encoding_rules.EncodingRules.TheVariants.{Der}
use Rattle.der_tlv.specs.declared.tag.Tag.TheVariants as tags
use Rattle.der_elem.specs.Accepting.{accepts_tagged}
use Rattle.der_pkix.specs.contracts.certificate.tbs_certificate.TbsCertificateFormValue.TheImpl.{ghosts as form}
use Rattle.der_pkix.specs.declared.certificate.tbs_certificate.TbsCertificate.{TbsCertificate}
use Rattle.der_places.specs.Layout.{LaidOut}
use Rattle.der_places.specs.Walking.{StandAt}
use Rattle.der_places.specs.contracts.certificate.tbs_certificate.TbsCertificatePlaced.TheImpl.{ghosts as placed}
use Rattle.der_c.specs.Building.{octets_at}
use Rattle.der_c.specs.contracts.path.meanings.MeaningsMeantSubjectPublicKeyInfo.TheImpl as key_form
use Rattle.der_c.proofs.Placing.{encoding_stands, given_out, holds_given}
use Rattle.der_c.proofs.path.places.key_place.Goals as goal

pub returns : goal.returns
returns c fits is_at =
    let octets = c.args.octets.now in
    let place = c.args.place in
    let own = octets_at octets place in
    let read = is_at.read.accepted in
    let stands = encoding_stands octets place tags.Sequence read.0 fits is_at.within read.1 in
    let laid = c.places_of-parts.ensures tags.Sequence own (lit< tt) read stands in
    let signed = given_out zero _ octets place.offset _ own tt laid stands in
    let at = c.places_of-parts.result.tbs_certificate in
    let places = placed.listed c.places_of-fields.result in
    let inner = subst (λ (t : TbsCertificate). (o : List ℕ) → accepts_tagged tags.Sequence form.value.accepts Der t o → StandAt octets at.offset o → LaidOut (placed.layout t) at.offset places o) c.tbs_certificate-signed.ensures (λ o r s. c.places_of-fields.ensures tags.Sequence o (lit< tt) r s) in
    let fields = inner signed.own signed.read signed.stands in
    holds_given key_form.ghosts.FORM _ octets _ (given_out (suc (suc (suc (suc (suc (suc zero)))))) _ octets at.offset _ signed.own tt fields signed.stands)
