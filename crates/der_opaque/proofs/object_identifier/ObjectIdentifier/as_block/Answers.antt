use Rattle.std.proofs.Common.{rules}
use Rattle.std.proofs.lemmas.List.{take-take}
use Rattle.der_opaque.proofs.object_identifier.ObjectIdentifier.as_block.Goals as goal

pub returns-in-Some : goal.returns-in-Some
returns-in-Some g c =
    let few = c.if-value-le8.true in
    let front = take-take c.args.self.now.count 8 c.args.self.now.octets (search rules) in
    search rules
