use Rattle.der_places.specs.LayoutLaws.{laid_out}
use Rattle.der_places.proofs.placed.places_of.Goals as goal

pub returns : goal.returns
returns g c tag own is_tag a s =
    let fields = g.T.Placed.layout c.args.value.now in
    laid_out fields c.args.octets.now c.args.offset c.start_of_contents-start.result (g.T.Placed.listed c.walk.result) c.start_of_contents-start.ensures c.walk.ensures own (record { tag = tag; contents = a.0; octets_are = a.1; is_tag = is_tag; are_fields = g.met.T.Placed.are_fields c.args.value.now a.0 a.2 }) s
