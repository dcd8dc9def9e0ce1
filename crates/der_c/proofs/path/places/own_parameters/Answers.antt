-- The second field of the first field of a key.
use Rattle.std.proofs.Common.{lit<, zero, suc, List, ℕ, subst}
use Rattle.der_tlv.specs.declared.encoding_rules.EncodingRules.TheVariants.{Der}
use Rattle.der_tlv.specs.declared.tag.Tag.TheVariants as tags
use Rattle.der_elem.specs.Accepting.{accepts_tagged}
use Rattle.der_pkix.specs.contracts.algorithm_identifier.AlgorithmIdentifierFormValue.TheImpl.{ghosts as form}
use Rattle.der_pkix.specs.declared.algorithm_identifier.AlgorithmIdentifier.{AlgorithmIdentifier}
use Rattle.der_places.specs.Layout.{LaidOut}
use Rattle.der_places.specs.Walking.{StandAt}
use Rattle.der_places.specs.contracts.algorithm_identifier.AlgorithmIdentifierPlaced.TheImpl.{ghosts as placed}
use Rattle.der_c.specs.Building.{octets_at}
use Rattle.der_c.specs.contracts.path.meanings.MeaningsMeantAnyRef.TheImpl as any_form
use Rattle.der_c.proofs.Placing.{encoding_stands, given_out, holds_if_given}
use Rattle.der_c.proofs.path.places.own_parameters.Goals as goal

pub returns : goal.returns
returns c fits holds =
    let octets = c.args.octets.now in
    let place = c.args.place in
    let own = octets_at octets place in
    let read = holds.accepted in
    let stands = encoding_stands octets place tags.Sequence read.0 fits holds.within read.1 in
    let laid = c.places_of-fields.ensures tags.Sequence own (lit< tt) read stands in
    let how = given_out zero _ octets place.offset _ own tt laid stands in
    let at = c.places_of-fields.result.algorithm in
    let places = placed.listed c.places_of-parts.result in
    let inner = subst (λ (a : AlgorithmIdentifier). (o : List ℕ) → accepts_tagged tags.Sequence form.value.accepts Der a o → StandAt octets at.offset o → LaidOut (placed.layout a) at.offset places o) c.algorithm-algorithm.ensures (λ o r s. c.places_of-parts.ensures tags.Sequence o (lit< tt) r s) in
    let fields = inner how.own how.read how.stands in
    holds_if_given any_form.ghosts.FORM _ octets _ (given_out (suc zero) _ octets at.offset _ how.own tt fields how.stands)
