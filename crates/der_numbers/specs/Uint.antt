-- The value of a Uint that a caller sees.
use Rattle.std.specs.Prelude.{ℕ, List}
use Rattle.der_elem.specs.Integer.{with_sign_octet}
use Rattle.der_numbers.specs.declared.uint.Uint.{Uint}

-- its contents octets: the number in the fewest octets, after 00 if the first is 80 or more
abbrev pub contents_of : Uint → List ℕ
contents_of number = with_sign_octet number.octets.items
