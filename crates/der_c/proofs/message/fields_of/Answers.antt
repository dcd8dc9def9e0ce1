use Rattle.der_places.specs.LayoutLaws.{whole_stands}
use Rattle.der_c.proofs.message.fields_of.Goals as goal

pub returns-in-Ok-clause-ok : goal.returns-in-Ok-clause-ok
returns-in-Ok-clause-ok g c =
    let read = c.in-Ok.ensures in
    record { value = c.in-Ok.value; read = read; shown = c.places_of.ensures g.T.Marker.TagMarker.TAG c.args.octets.now g.T.Marker.TagMarker.tag_in_range read.accepted (whole_stands c.args.octets.now read.fits) }
