use Rattle.std.proofs.Common.{sym}
use Rattle.der_simple.proofs.Ascii.{characters-utf8}
use Rattle.der_simple.proofs.characters.text_of.Goals as goal

pub from_utf8_unchecked-requires : goal.from_utf8_unchecked-requires
from_utf8_unchecked-requires c = characters-utf8 c.args.number c.args.octets.now (sym c.if-not-are_characters.ensures)
