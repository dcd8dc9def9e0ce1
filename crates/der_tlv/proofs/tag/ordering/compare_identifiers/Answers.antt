use Rattle.std.proofs.Common.{sym, ◌∙◌}
use Rattle.std.specs.Cmp.{Equal-is}
use Rattle.der_tlv.specs.Identifier.{identifier}
use Rattle.der_tlv.specs.Octets.{lex}
use Rattle.der_tlv.specs.TagEquality.{tag_eq-identifier}
use Rattle.der_tlv.proofs.tag.ordering.compare_identifiers.Goals as goal

pub returns-then-eq : goal.returns-then-eq
returns-then-eq c = sym ((Equal-is (lex (identifier c.args.tag) (identifier c.args.other))).0 (sym (tag_eq-identifier c.args.tag c.args.other) ∙ (sym c.eq.ensures ∙ c.if-eq.true)))
