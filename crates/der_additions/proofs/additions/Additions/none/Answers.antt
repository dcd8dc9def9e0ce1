use Rattle.std.proofs.Common.{◌≡◌, [], Ok, Err, lit<}
use Rattle.der_tlv.specs.declared.encoding_rules.EncodingRules.TheVariants.{Der}
use Rattle.der_additions.specs.Elements.{parse_elements}
use Rattle.der_additions.specs.ElementLaws.{none_parsed}
use Rattle.der_additions.proofs.additions.Additions.none.Goals as goal

pub unreachable-requires : goal.unreachable-requires
unreachable-requires c =
    let fault : parse_elements Der 0 [] ≡ Err c.in-Err.field-0.kind = c.in-Err.ensures.kept (lit< tt) in
    let parsed : parse_elements Der 0 [] ≡ Ok [] = none_parsed Der 0 in
    absurd (cc)
