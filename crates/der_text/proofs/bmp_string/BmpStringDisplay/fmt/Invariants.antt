use Rattle.std.proofs.Common.{◌≡◌, ℕ, List, ◌++◌, encode_utf8_all}
use Rattle.std.specs.Fmt.{HasWritten, IsPlainFormatter}
use Rattle.der_text.specs.BmpUnits.{units}
use Rattle.der_text.proofs.bmp_string.BmpStringDisplay.fmt.Given as goal

-- the octets that were written and the characters that are left are the text
abbrev pub invariant-characters : goal.invariant-characters
invariant-characters g l =
    IsPlainFormatter l.fn.f
    → (done : List ℕ) × HasWritten g.W.Write.write_str_gives l.fn.f done l.f × (done ++ encode_utf8_all l.rest ≡ encode_utf8_all (units l.fn.self.octets.items))
