use Rattle.std.proofs.Common.{[], ◌∷◌}
use Rattle.std.specs.Fmt.{decimal}
use Rattle.der_c.proofs.DottedParts.{strips_both, strips_none}
use Rattle.der_c.proofs.identifiers.behind_arc.Goals as goal

pub returns-in-Some : goal.returns-in-Some
returns-in-Some c = strips_both c.args.text.now (46 ∷ []) (decimal c.args.arc) c.in-Some.rest.now _ c.in-Some.ensures c.behind_number.ensures

pub returns-in-None : goal.returns-in-None
returns-in-None c = strips_none c.args.text.now (46 ∷ []) (decimal c.args.arc) c.in-None.ensures
