use Rattle.std.proofs.Common.{arith, refl}
use Rattle.der_c.proofs.AttributeParts.{all_escaped, escape_more, nothing_escaped}
use Rattle.der_c.proofs.attribute_text.put_characters.Goals as goal

pub loop-index-init : goal.loop-index-init
loop-index-init c = nothing_escaped c.args.characters.now c.args.room.now c.args.position (omega arith)

pub loop-index-preserved : goal.loop-index-preserved
loop-index-preserved c = escape_more c.args.characters.now c.args.room.now c.loop-index.room c.put_character-next.new.room c.args.position c.loop-index.next c.put_character-next.result c.loop-index.index _ _ (omega arith) c.loop-index.invariant c.loop-index-test.true refl refl c.put_character-next.ensures

pub returns : goal.returns
returns c = all_escaped c.args.characters.now c.args.room.now c.loop-index.room c.args.position c.loop-index.next c.loop-index.index c.loop-index.invariant (omega arith)
