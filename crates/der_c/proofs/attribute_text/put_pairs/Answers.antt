use Rattle.std.proofs.Common.{ℕ, List, ◌+◌, take, get_or, arith, subst}
use Rattle.std.specs.List.{flat_map}
use Rattle.std.proofs.lemmas.List.{take_all, take_more}
use Rattle.der_c.specs.AttributeText.{hex_pair}
use Rattle.der_c.specs.RoomText.{Puts}
use Rattle.der_c.proofs.AttributeParts.{pairs_more}
use Rattle.der_c.proofs.RoomTexts.{puts_none}
use Rattle.der_c.proofs.attribute_text.put_pairs.Goals as goal

pub loop-octet-init : goal.loop-octet-init
loop-octet-init c = puts_none c.args.room.now c.args.position (omega arith)

pub loop-octet-preserved : goal.loop-octet-preserved
loop-octet-preserved c = pairs_more (take c.loop-octet.octet-index c.args.octets.now) (take (c.loop-octet.octet-index + 1) c.args.octets.now) c.args.room.now c.loop-octet.room c.put_pair-next.new.room c.args.position c.loop-octet.next c.put_pair-next.result (get_or c.args.octets.now c.loop-octet.octet-index 0) (omega arith) c.loop-octet.invariant c.put_pair-next.ensures (take_more c.args.octets.now c.loop-octet.octet-index 0 (omega arith))

pub returns : goal.returns
returns c =
    let P : List ℕ → Type 0 = λ t. Puts (flat_map hex_pair t) c.args.room.now c.args.position c.loop-octet.room c.loop-octet.next in
    subst P (take_all c.loop-octet.octet-index c.args.octets.now (omega arith)) c.loop-octet.invariant
