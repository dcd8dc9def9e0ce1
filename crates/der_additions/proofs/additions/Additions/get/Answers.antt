use Rattle.std.proofs.Common.{Some, Ok, subst}
use Rattle.std.proofs.Math.Logic.{∥∥₁_elim}
use Rattle.std.proofs.Props.{props}
use Rattle.der_lists.specs.ReadingOn.{ComesAt}
use Rattle.der_opaque.specs.contracts.any_ref.AnyRefForm.TheImpl.{ghosts as any_form}
use Rattle.der_additions.specs.Additions.{octets_of}
use Rattle.der_additions.specs.Elements.{encodings_of}
use Rattle.der_additions.proofs.additions.Additions.get.Goals as goal

pub returns-in-Some-Ok : goal.returns-in-Some-Ok
returns-in-Some-Ok c =
    let encodings = encodings_of (octets_of c.args.self.now) in
    ∥∥₁_elim c.args.self.now.elements (hlevel props) (λ are.
    let item : ComesAt any_form encodings c.args.index (Some (Ok c.in-Some-Ok.addition)) = subst (λ item. ComesAt any_form encodings c.args.index (Some item)) c.in-Some-Ok.field-0-is (c.in-Some-Ok.ensures are) in
    item.1)

pub returns-in-None : goal.returns-in-None
returns-in-None c = ∥∥₁_elim c.args.self.now.elements (hlevel props) (λ are. c.in-None.ensures are)
