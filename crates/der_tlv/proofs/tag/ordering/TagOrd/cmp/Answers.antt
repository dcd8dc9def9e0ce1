use Rattle.der_tlv.proofs.TagOrder.{first_decides}
use Rattle.der_tlv.proofs.tag.ordering.TagOrd.cmp.Goals as goal

pub returns-in_default : goal.returns-in_default
returns-in_default c = first_decides c.args.self.now c.args.other.now c.first_octet.result c.first_octet-2.result c.cmp.result c.first_octet.ensures c.first_octet-2.ensures c.cmp.ensures c.in_default.not-Equal
