use Rattle.std.proofs.Common.{◌++◌}
use Rattle.der_elem.specs.OrderLaws.{nothing_after}
use Rattle.der_elem.proofs.laws.no_octets_read_begin_others.Goals as goal

pub returns : goal.returns
returns g c rules others v w octets more a b =
    nothing_after octets more (g.met.T.Tagged.accepted_is_tlv rules v octets a) (g.met.U.Tagged.accepted_is_tlv others w (octets ++ more) b)
