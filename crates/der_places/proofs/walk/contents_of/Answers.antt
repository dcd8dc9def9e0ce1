use Rattle.std.proofs.Common.{◌≡◌, ◌+◌, ◌<◌, ◌^◌, refl, rules}
use Rattle.der_places.proofs.Headers.{holding}
use Rattle.der_places.proofs.walk.contents_of.Goals as goal

pub returns : goal.returns
returns c =
    let sizes = c.sizes_at-sizes in
    let begins : c.args.place.offset + sizes.result.header < 2 ^ 32 → c.saturating_add.result ≡ c.args.place.offset + sizes.result.header = search rules in
    holding c.args.octets.now c.args.place _ sizes.result sizes.ensures begins refl
