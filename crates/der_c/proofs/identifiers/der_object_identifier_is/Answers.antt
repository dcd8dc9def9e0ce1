use Rattle.der_c.proofs.DottedParts.{is_answer}
use Rattle.der_c.proofs.identifiers.der_object_identifier_is.Goals as goal

pub returns : goal.returns
returns c = is_answer c.args.contents.now c.args.text.now c.has_text.result c.number_of_flag.result c.has_text.ensures c.number_of_flag.ensures
