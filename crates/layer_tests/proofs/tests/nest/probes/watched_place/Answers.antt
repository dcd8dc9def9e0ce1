use Rattle.der_nest.specs.PlacingLaws.{falling_items}
use Rattle.layer_tests.proofs.tests.nest.probes.watched_place.Goals as goal

pub insertion_place-requires-clause-falling : goal.insertion_place-requires-clause-falling
insertion_place-requires-clause-falling g c =
    let e = c.new-probe.ensures.items in
    let f = c.new-probe.ensures.item in
    rw (e, f) (falling_items g.T.Form.encoding c.args.items.now c.args.item.now c.requires.in_order)
