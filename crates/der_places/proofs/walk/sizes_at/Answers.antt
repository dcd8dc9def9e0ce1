use Rattle.std.proofs.Common.{◌≡◌, ◌+◌, ◌*◌, ◌%◌, ◌<◌, get_or, rules}
use Rattle.der_places.proofs.Sizes.{of_one, of_two, of_three}
use Rattle.der_places.proofs.walk.sizes_at.Goals as goal

pub returns-then-count-lt128 : goal.returns-then-count-lt128
returns-then-count-lt128 c =
    let low : get_or c.args.octets.now c.args.offset 0 % 32 ≡ 31 → ⊥ = search rules in
    let short : get_or c.args.octets.now (c.args.offset + 1) 0 < 128 = search rules in
    of_one c.args.octets.now c.args.offset c.from.result low short c.from.ensures

pub returns-in-129 : goal.returns-in-129
returns-in-129 c =
    let low : get_or c.args.octets.now c.args.offset 0 % 32 ≡ 31 → ⊥ = search rules in
    let long : get_or c.args.octets.now (c.args.offset + 1) 0 ≡ 129 = search rules in
    of_two c.args.octets.now c.args.offset c.from-first.result low long c.from-first.ensures

pub returns-in-130 : goal.returns-in-130
returns-in-130 c =
    let low : get_or c.args.octets.now c.args.offset 0 % 32 ≡ 31 → ⊥ = search rules in
    let long : get_or c.args.octets.now (c.args.offset + 1) 0 ≡ 130 = search rules in
    let is : c.from-first.result * 256 + c.from-last.result ≡ get_or c.args.octets.now (c.args.offset + 2) 0 * 256 + get_or c.args.octets.now (c.args.offset + 3) 0 = search rules in
    of_three c.args.octets.now c.args.offset (c.from-first.result * 256 + c.from-last.result) low long is
