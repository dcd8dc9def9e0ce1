use Rattle.std.proofs.Common.{ap, ◌∙◌}
use Rattle.der_opaque.specs.AnyRef.{contents_of}
use Rattle.der_path.specs.Subtrees.{permits, place_octets}
use Rattle.der_path.proofs.basic.permitted_value.Goals as goal

pub returns : goal.returns
returns c = c.permits.ensures ∙ ap (λ o. permits (place_octets 1 o) c.args.subtrees.now) (c.value-2.ensures ∙ ap contents_of c.value.ensures)
