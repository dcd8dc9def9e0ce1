-- Lists of octets and their order.
use Rattle.std.specs.Prelude.{ℕ, List}
use Rattle.std.specs.Ordering.{nat_cmp}
use Rattle.std.specs.declared.cmp.Ordering.{Ordering}
use Rattle.std.specs.Cmp.Lexicographic.{slice_cmp}

-- the lexicographic order: the first octet in which the two differ decides, and a proper prefix is less
abbrev pub lex : List ℕ → List ℕ → Ordering
lex = slice_cmp nat_cmp
