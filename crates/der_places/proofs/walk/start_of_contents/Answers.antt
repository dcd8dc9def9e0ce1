use Rattle.std.proofs.Common.{◌≡◌, ◌+◌, ◌<◌, ◌^◌, refl, rules}
use Rattle.der_places.proofs.Headers.{entering}
use Rattle.der_places.proofs.walk.start_of_contents.Goals as goal

pub returns : goal.returns
returns c =
    let sizes = c.sizes_at-sizes in
    let begins : c.args.offset + sizes.result.header < 2 ^ 32 → c.saturating_add.result ≡ c.args.offset + sizes.result.header = search rules in
    entering c.args.octets.now c.args.offset sizes.result _ sizes.ensures begins refl
