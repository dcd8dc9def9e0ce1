-- The order of the encodings of a SET OF's items (X.690 11.6): zero octets are added to the end of the shorter one.
use Rattle.std.specs.Prelude.{ℕ, ◌-◌, List, ◌++◌, length, replicate}
use Rattle.std.specs.declared.cmp.Ordering.{Ordering}
use Rattle.der_tlv.specs.Octets.{lex}

-- octets with zeros at their end, up to the number of other octets, if they are fewer
abbrev pub padded_to : List ℕ → List ℕ → List ℕ
padded_to others octets = octets ++ replicate (length others - length octets) 0

-- the order of octets, with the shorter padded with zeros
abbrev pub padded_cmp : List ℕ → List ℕ → Ordering
padded_cmp a b = lex (padded_to b a) (padded_to a b)
