-- Equality and copies of additions after the fields of a SEQUENCE of a module.
use Rattle.std.specs.Prelude.{◌≡◌, refl}
use Rattle.std.proofs.Common.{ap, sym}
use Rattle.std.specs.Cmp.Lexicographic.{bytes_decides}
use Rattle.der_fields.specs.FieldSteps.{rest_copies}
use Rattle.der_modules.specs.MemberLaws.{FieldCopies}
use Rattle.der_modules.specs.Members.{MembersOf}
use Rattle.der_additions.specs.contracts.additions.AdditionsPartialEq.TheImpl.{ghosts as equality}
use Rattle.der_additions.specs.declared.additions.Additions.{Additions}
use Rattle.der_additions.specs.Additions.{additions_format, octets_of}
use Rattle.der_additions.specs.ElementLaws.{starts_with_first}

-- additions are equal if and only if their octets are
abbrev pub additions_members : MembersOf Additions
additions_members = record {
  first_tag = additions_format.first_tag;
  contents = octets_of;
  comparable = λ v w. Unit {0};
  eq = equality.eq;
  starts = λ v. starts_with_first (octets_of v) v.elements;
  equal = λ v w one. bytes_decides (octets_of v) (octets_of w);
}

-- a copy is the value
pub additions_copies : FieldCopies additions_format (λ v w. w ≡ v) equality.eq
additions_copies = record {
  list = rest_copies additions_format (λ v. starts_with_first (octets_of v) v.elements) (λ v w. w ≡ v) (λ v w c. ap octets_of c) (λ v w x c one. tt) (λ v w c. refl);
  equal = λ v w c. (bytes_decides (octets_of v) (octets_of w)).1 (ap octets_of (sym c));
}
