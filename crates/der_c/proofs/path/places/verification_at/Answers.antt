-- The three fields of a certificate at their byte ranges.
use Rattle.std.proofs.Common.{lit<, zero, suc}
use Rattle.der_tlv.specs.declared.tag.Tag.TheVariants as tags
use Rattle.der_c.specs.Building.{octets_at}
use Rattle.der_c.specs.contracts.path.meanings.MeaningsMeantAlgorithmIdentifier.TheImpl as algorithm_form
use Rattle.der_c.specs.contracts.path.meanings.MeaningsMeantBitStringRef.TheImpl as bit_string_form
use Rattle.der_c.specs.contracts.path.meanings.MeaningsMeantTbsCertificate.TheImpl as tbs_form
use Rattle.der_c.proofs.Placing.{encoding_stands, given_out, holds_given}
use Rattle.der_c.proofs.path.places.verification_at.Goals as goal

pub returns : goal.returns
returns c w fits key is_at =
    let octets = c.args.octets.now in
    let place = c.args.place in
    let own = octets_at octets place in
    let read = is_at.read.accepted in
    let stands = encoding_stands octets place tags.Sequence read.0 fits is_at.within read.1 in
    let laid = c.places_of-parts.ensures tags.Sequence own (lit< tt) read stands in
    record {
      signed = holds_given tbs_form.ghosts.FORM _ octets _ (given_out zero _ octets place.offset _ own tt laid stands);
      algorithm = holds_given algorithm_form.ghosts.FORM _ octets _ (given_out (suc zero) _ octets place.offset _ own tt laid stands);
      signature = holds_given bit_string_form.ghosts.FORM _ octets _ (given_out (suc (suc zero)) _ octets place.offset _ own tt laid stands);
      key = key.key;
      parameters = key.parameters;
    }
