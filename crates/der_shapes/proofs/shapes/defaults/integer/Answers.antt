-- No octets, and more than a length counts, are refused: these are some, and few.
-- Made by tools/asn1 from shapes.asn1.
use Rattle.std.proofs.Common.{◌≤◌, rules, arith, length, inl, inr, ap}
use Rattle.der_elem.specs.Integer.{AreOctets, integer_contents, twos_complement}
use Rattle.der_elem.proofs.IntegerContents.{are_octets}
use Rattle.der_shapes.specs.Shapes.DefaultLaws.{integer_within}
use Rattle.der_shapes.proofs.shapes.defaults.integer.Goals as goal

pub unreachable-requires : goal.unreachable-requires
unreachable-requires c =
    let all : AreOctets c.args.octets.now = are_octets c.args.octets.now (search rules) in
    let within : length (integer_contents (twos_complement c.args.octets.now)) ≤ length c.args.octets.now = integer_within c.args.octets.now all c.requires.some in
    let some = c.requires.some in
    let short = c.requires.short in
    elim c.in-Err.ensures.1 [
      | inl none ↦ let empty = ap length none in omega (arith, some, empty)
      | inr long ↦ omega (arith, within, short, long)
    ]
