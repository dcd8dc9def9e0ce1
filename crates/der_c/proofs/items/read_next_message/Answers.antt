use Rattle.std.proofs.Common.{take, inl, refl}
use Rattle.der_c.specs.Building.{octets_at}
use Rattle.der_c.proofs.Left.{left_counted, left_stands, next_given}
use Rattle.der_c.proofs.items.read_next_message.Goals as goal

pub returns-in-Ok : goal.returns-in-Ok
returns-in-Ok g c =
    let octets = c.args.octets.now in
    let left = c.args.left.now in
    let read = c.in-Ok.ensures.ok.read in
    let taken = c.in-Ok.item.1.length in
    let stands = left_stands octets left taken read.within read.fits in
    let laid = c.places_of.ensures g.T.Marker.TagMarker.TAG (take taken (octets_at octets left)) g.T.Marker.TagMarker.tag_in_range read.read.accepted stands in
    inl (record { number = refl; unchanged = refl }, next_given read laid (c.behind.ensures read.some (left_counted octets left read.within read.fits)))
