use Rattle.std.proofs.Common.{Some, None, refl}
use Rattle.der_extensions.specs.contracts.extension.general_name.GeneralNameForm.TheImpl as form
use Rattle.der_places.specs.declared.place.Place.{Place}
use Rattle.der_c.proofs.NamesKept.{has_names}
use Rattle.der_c.proofs.general_names.has_one.Goals as goal

pub returns-in-Some : goal.returns-in-Some
returns-in-Some g c fits given a =
    let all : Place = record { offset = 0; length = c.length_of.result } in
    has_names {F = form.ghosts} {found = Some c.in-Some._item} c.args.octets.now all refl (c.length_of.ensures fits) (c.in-Some.ensures.first refl) fits given a

pub returns-in-None : goal.returns-in-None
returns-in-None g c fits given a =
    let all : Place = record { offset = 0; length = c.length_of.result } in
    has_names {F = form.ghosts} {found = None} c.args.octets.now all refl (c.length_of.ensures fits) (c.in-None.ensures.first refl) fits given a
