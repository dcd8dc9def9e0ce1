use Rattle.std.proofs.Common.{◌≤◌, arith, refl}
use Rattle.der_places.specs.declared.place.Place.{Place}
use Rattle.der_c.proofs.Left.{left_counted}
use Rattle.der_c.proofs.NextPart.{enters, none_if_empty}
use Rattle.der_c.proofs.names_left.enter.Goals as goal

pub returns-then-part-eq0 : goal.returns-then-part-eq0
returns-then-part-eq0 c within =
    let start : Place = record { offset = c.args.left.parts.offset; length = 0 } in
    none_if_empty c.args.octets.now c.args.left start c.next_place-part.result refl refl c.next_place-part.ensures c.if-part-eq0.true

pub returns : goal.returns
returns c within =
    let start : Place = record { offset = c.args.left.parts.offset; length = 0 } in
    let long = c.if-left-part.false in
    let few : c.next_place-part.result.length ≤ c.args.left.parts.length = omega arith in
    enters c.args.octets.now c.args.left start c.next_place-part.result refl refl c.next_place-part.ensures c.behind.result c.contents_of.result c.contents_of.ensures (λ fits. c.behind.ensures few (left_counted c.args.octets.now c.args.left.parts within fits))
