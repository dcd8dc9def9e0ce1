-- The results of comparing two values.
use Rattle.std.specs.Prelude.{◌≡◌, ℕ, ◌≤◌, ◌^◌, List, length, Bool, true, ◌⊎◌, Result, Ok, Err}
use Rattle.std.specs.declared.cmp.Ordering.{Ordering}
use Rattle.der_tlv.specs.declared.error.ErrorKind.{ErrorKind}
use Rattle.der_tlv.specs.declared.error.ErrorKind.TheVariants.{Overflow, Memory, Value}
use Rattle.der_tlv.specs.declared.error.Error.{Error}
use Rattle.der_tlv.specs.declared.tag.Tag.{Tag}
use Rattle.der_tlv.specs.Octets.{lex}
use Rattle.der_tlv.specs.HeaderOctets.{tlv}
use Rattle.der_elem.specs.ContentsFormat.{ContentsFormat}
use Rattle.der_elem.specs.declared.form.Form as form

-- why the octets of two values are not compared: one has too many for a length, the values are not comparable, or memory ran out while one was read again
abbrev pub IncomparableOctets : (a b : List ℕ) → (NotComparable : Type 0) → (re_reads_a re_reads_b : Bool) → ErrorKind → Type 0
IncomparableOctets a b NotComparable re_reads_a re_reads_b Overflow = (2 ^ 32 ≤ length a) ⊎ (2 ^ 32 ≤ length b)
IncomparableOctets a b NotComparable re_reads_a re_reads_b (Value tag) = NotComparable
IncomparableOctets a b NotComparable re_reads_a re_reads_b Memory = (re_reads_a ≡ true) ⊎ (re_reads_b ≡ true)
IncomparableOctets a b NotComparable re_reads_a re_reads_b _ = ⊥

-- the result of comparing them: their lexicographic order, or why there is none
abbrev pub ComparesOctets : (a b : List ℕ) → (NotComparable : Type 0) → (re_reads_a re_reads_b : Bool) → Result Ordering Error → Type 0
ComparesOctets a b NotComparable re_reads_a re_reads_b (Ok order) = order ≡ lex a b
ComparesOctets a b NotComparable re_reads_a re_reads_b (Err e) = IncomparableOctets a b NotComparable re_reads_a re_reads_b e.kind

-- why the contents octets of two values are not compared
abbrev pub IncomparableValues : {T : Type 0} → ContentsFormat T → T → T → ErrorKind → Type 0
IncomparableValues F x y = IncomparableOctets (F.contents x) (F.contents y) (F.comparable x y → ⊥) (F.re_reads x) (F.re_reads y)

-- the result of comparing contents octets
abbrev pub ComparesValues : {T : Type 0} → ContentsFormat T → T → T → Result Ordering Error → Type 0
ComparesValues F x y = ComparesOctets (F.contents x) (F.contents y) (F.comparable x y → ⊥) (F.re_reads x) (F.re_reads y)

-- two encodings with equal identifier octets and equal length octets
pub record SameHeader (a b : List ℕ) : Type 0 where
  pub tag : Tag
  pub first : List ℕ
  pub second : List ℕ
  pub first_is : a ≡ tlv tag first
  pub second_is : b ≡ tlv tag second
  pub same_length : length first ≡ length second

-- two values that are not comparable although the headers of their encodings are equal
abbrev pub Undecided : {T : Type 0} → form.Ghosts T → T → T → Type 0
Undecided F x y = (F.comparable x y → ⊥) × SameHeader (F.encoding x) (F.encoding y)

-- why two values have no comparison
abbrev pub Incomparable : {T : Type 0} → form.Ghosts T → T → T → ErrorKind → Type 0
Incomparable F x y = IncomparableOctets (F.encoding x) (F.encoding y) (Undecided F x y) (F.re_reads x) (F.re_reads y)

-- the result of comparing two values: the lexicographic order of their encodings, or why there is none
abbrev pub Compares : {T : Type 0} → form.Ghosts T → T → T → Result Ordering Error → Type 0
Compares F x y = ComparesOctets (F.encoding x) (F.encoding y) (Undecided F x y) (F.re_reads x) (F.re_reads y)
