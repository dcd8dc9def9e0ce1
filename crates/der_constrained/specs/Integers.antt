-- The values of INTEGER that a range allows (X.680 51.4).
use Rattle.std.proofs.Common.{◌≡◌, ℕ, List, Bool, ◌&&◌, ℤ, pos, int_le, ap, sym, ◌∙◌}
use Rattle.der_elem.specs.Integer.{twos_complement, integer_contents, natural_contents}
use Rattle.der_elem.specs.IntegerLaws.{twos_complement_integer_contents, integer_contents-pos}

-- whether an integer is one of `(least..greatest)`
abbrev pub in_range : ℤ → ℤ → ℤ → Bool
in_range least greatest integer = int_le least integer && int_le integer greatest

-- `INTEGER (least..greatest)`, by the contents octets of the value
abbrev pub range : ℤ → ℤ → List ℕ → Bool
range least greatest octets = in_range least greatest (twos_complement octets)

-- the contents octets of an integer are in the range if and only if it is
pub range_of_integer : (least greatest integer : ℤ) → range least greatest (integer_contents integer) ≡ in_range least greatest integer
range_of_integer least greatest integer = ap (in_range least greatest) (twos_complement_integer_contents integer)

-- the contents octets of a number that is not negative are in the range if and only if it is
pub range_of_natural : (least greatest : ℤ) (number : ℕ) → range least greatest (natural_contents number) ≡ in_range least greatest (pos number)
range_of_natural least greatest number = ap (range least greatest) (sym (integer_contents-pos number)) ∙ range_of_integer least greatest (pos number)
