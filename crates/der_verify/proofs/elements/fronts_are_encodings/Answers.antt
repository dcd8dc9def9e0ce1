use Rattle.der_verify.proofs.FrontsAgree.{agrees}
use Rattle.der_verify.proofs.elements.fronts_are_encodings.Goals as goal

pub returns : goal.returns
returns c = agrees
