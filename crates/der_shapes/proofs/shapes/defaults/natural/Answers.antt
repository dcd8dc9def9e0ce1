-- No octets, and more than a length counts, are refused: these are some, and few.
-- Made by tools/asn1 from shapes.asn1.
use Rattle.std.proofs.Common.{◌≤◌, rules, arith, length, inl, inr, ap}
use Rattle.der_elem.specs.Integer.{AreOctets, big_endian_number, natural_contents}
use Rattle.der_elem.proofs.IntegerContents.{are_octets}
use Rattle.der_numbers.specs.AnyLength.{without_sign_octet}
use Rattle.der_shapes.specs.Shapes.DefaultLaws.{natural_within}
use Rattle.der_shapes.proofs.shapes.defaults.natural.Goals as goal

pub unreachable-requires : goal.unreachable-requires
unreachable-requires c =
    let all : AreOctets c.args.octets.now = are_octets c.args.octets.now (search rules) in
    let within : length (without_sign_octet (natural_contents (big_endian_number c.args.octets.now))) ≤ length c.args.octets.now = natural_within c.args.octets.now all c.requires.some c.requires.positive in
    let some = c.requires.some in
    let short = c.requires.short in
    elim c.in-Err.ensures.1 [
      | inl none ↦ let empty = ap length none in omega (arith, some, empty)
      | inr long ↦ omega (arith, within, short, long)
    ]
