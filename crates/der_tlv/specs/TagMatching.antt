-- Whether the next tag has a class and a number.
use Rattle.std.specs.Prelude.{◌≡◌, ℕ, ◌==◌, ◌&&◌, List, [], ◌∷◌, Bool, false, Result, Ok, Err}
use Rattle.der_tlv.specs.declared.error.ErrorKind.{ErrorKind}
use Rattle.der_tlv.specs.declared.error.Error.{Error}
use Rattle.der_tlv.specs.declared.tag.class.Class.{Class}
use Rattle.der_tlv.specs.declared.tag.Tag.{Tag}
use Rattle.der_tlv.specs.TagParts.{class_of, number_of}
use Rattle.der_tlv.specs.Identifier.{class_index}
use Rattle.der_tlv.specs.HeaderReading.{read_tag}
use Rattle.der_tlv.specs.ReaderState.{ReaderState, rest, unless_failed}
use Rattle.der_tlv.specs.Reading.{Refused}

-- whether a tag has a class and a number, whatever its form
abbrev pub has_number : Class → ℕ → Tag → Bool
has_number class number t = (class_index (class_of t) == class_index class) && (number_of t == number)

-- whether a tag that was read has a class and a number
abbrev pub match_read : Class → ℕ → Result (ℕ × Tag) ErrorKind → Result Bool ErrorKind
match_read class number (Ok (count, t)) = Ok (has_number class number t)
match_read class number (Err k) = Err k

-- Whether the tag at position p has a class and a number: false if no octet is left.
abbrev pub match_tag : Class → ℕ → ℕ → List ℕ → Result Bool ErrorKind
match_tag class number p [] = Ok false
match_tag class number p (x ∷ xs) = match_read class number (read_tag p (x ∷ xs))

-- the next tag was looked at, and the reader is unchanged
pub record MatchSeen (class : Class) (number : ℕ) (old new : ReaderState) (found : Bool) : Type 0 where
  pub ready : old.failed ≡ false
  pub found_is : match_tag class number old.position (rest old) ≡ Ok found
  pub after : new ≡ old

-- the first error of the next tag
pub record MatchFault (class : Class) (number : ℕ) (old new : ReaderState) (kind : ErrorKind) : Type 0 where
  pub fault_is : unless_failed (match_tag class number) old ≡ Err kind
  pub reader : Refused old new kind

-- the result of a call that asks whether the next tag has a class and a number
abbrev pub PeeksMatch : Class → ℕ → ReaderState → ReaderState → Result Bool Error → Type 0
PeeksMatch class number old new (Ok found) = MatchSeen class number old new found
PeeksMatch class number old new (Err e) = MatchFault class number old new e.kind
