use Rattle.std.proofs.Common.{◌-◌, cond, slice_index, rules, arith, refl}
use Rattle.der_elem.specs.Integer.{AreOctets}
use Rattle.der_elem.proofs.IntegerContents.{magnitude_more, magnitude_more_le, are_octets, short_magnitude-fits}
use Rattle.der_elem.proofs.integer.octets.magnitude.Goals as goal

pub overflow_mul-number : goal.overflow_mul-number
overflow_mul-number c =
    let octet = slice_index c.args.bytes.now c.loop-octet.octet-index in
    let more = magnitude_more_le c.args.negative c.args.bytes.now c.loop-octet.octet-index c.loop-octet.number (cond c.args.negative (255 - octet) octet) (search rules) c.loop-octet.invariant refl in
    search (rules, arith, more, c.requires)

pub overflow_add-number : goal.overflow_add-number
overflow_add-number c =
    let more = magnitude_more_le c.args.negative c.args.bytes.now c.loop-octet.octet-index c.loop-octet.number c.inverted_if.result (search rules) c.loop-octet.invariant c.inverted_if.ensures in
    search (rules, arith, more, c.requires)

pub loop-octet-preserved : goal.loop-octet-preserved
loop-octet-preserved c = magnitude_more c.args.negative c.args.bytes.now c.loop-octet.octet-index c.loop-octet.number c.inverted_if.result (search rules) c.loop-octet.invariant c.inverted_if.ensures

pub short_magnitude-requires : goal.short_magnitude-requires
short_magnitude-requires c =
    let all : AreOctets c.args.bytes.now = are_octets c.args.bytes.now (search rules) in
    short_magnitude-fits c.args.negative c.args.bytes.now all (search rules)
