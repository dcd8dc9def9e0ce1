use Rattle.std.proofs.Common.{◌∙◌, sym, ap, Err}
use Rattle.std.proofs.lemmas.Int.{to_z-of_z}
use mir.Syntax.{w64}
use Rattle.der_tlv.specs.declared.error.ErrorKind.TheVariants as kinds
use Rattle.der_numbers.specs.Enumerated.{named}
use Rattle.der_numbers.specs.EnumeratedLaws.{named-some, named-none}
use Rattle.der_numbers.proofs.enumerated.named_value.Goals as goal

pub returns-in-Some : goal.returns-in-Some
returns-in-Some g c =
    let read = c.in-Ok.ensures in
    let names = g.E.Enumeration.names in
    let passed = to_z-of_z w64 c.in-Ok.number (record { sfits = read.1 }) in
    named-some g.E.Marker.TagMarker.TAG names.number_of names.values c.args.octets.now c.in-Ok.number read.0 read.1 c.in-Some.value (ap (named names.number_of names.values) (sym passed) ∙ sym c.of_number.ensures ∙ c.in-Some.is)

pub returns-in-None : goal.returns-in-None
returns-in-None g c =
    let read = c.in-Ok.ensures in
    let names = g.E.Enumeration.names in
    let passed = to_z-of_z w64 c.in-Ok.number (record { sfits = read.1 }) in
    named-none g.E.Marker.TagMarker.TAG names.number_of names.values c.args.octets.now c.in-Ok.number read.0 read.1 (ap (named names.number_of names.values) (sym passed) ∙ sym c.of_number.ensures ∙ c.in-None.is)
    ∙ ap Err (ap kinds.Value (sym c.TAG-tag.ensures) ∙ sym c.value_error.ensures)
