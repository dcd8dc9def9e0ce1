use Rattle.std.proofs.Common.{◌≡◌, ◌+◌, ◌<◌, ◌^◌, rules}
use Rattle.der_places.proofs.Headers.{measured}
use Rattle.der_places.proofs.walk.encoding_len.Goals as goal

pub returns : goal.returns
returns c =
    let sizes = c.sizes_at-sizes in
    let counts : sizes.result.header + sizes.result.contents < 2 ^ 32 → c.saturating_add.result ≡ sizes.result.header + sizes.result.contents = search rules in
    measured c.args.octets.now c.args.offset sizes.result _ sizes.ensures counts
