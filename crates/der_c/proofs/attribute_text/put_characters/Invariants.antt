use Rattle.der_c.proofs.AttributeParts.{EscapedSoFar}
use Rattle.der_c.proofs.attribute_text.put_characters.Given as goal

abbrev pub invariant-loop-index : goal.invariant-loop-index
invariant-loop-index l = EscapedSoFar l.characters l.index l.fn.room l.position l.room l.next
