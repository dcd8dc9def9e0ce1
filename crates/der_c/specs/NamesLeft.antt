-- The attributes of a name that are read one after another (RFC 5280 4.1.2.4).
use Rattle.std.specs.Prelude.{◌≡◌, ◌⊎◌, ℕ, ◌+◌, ◌≤◌, ◌<◌, ◌||◌, nat_lt, List, length, Bool, Option, Some, None}
use Rattle.der_tlv.specs.HeaderOctets.{header_octets}
use Rattle.der_elem.specs.declared.form.Form as form
use Rattle.der_places.specs.Walking.{IsEncoding, StandAt}
use Rattle.der_places.specs.declared.place.Place.{Place}
use Rattle.der_c.specs.Answers.{NoFault, fault_of_call}
use Rattle.der_c.specs.Items.{EndsWithin, IsBehind, LeftRefused, NextGiven}
use Rattle.der_c.specs.declared.fault.Fault.{Fault}
use Rattle.der_c.specs.declared.names_left.NameLeft.{NameLeft}

-- whether an attribute is left
abbrev pub has_attribute : NameLeft → Bool
has_attribute left = nat_lt 0 left.parts.length || nat_lt 0 left.attributes.length

-- the next part of a name is entered: its encoding is at the front of the parts that are left, and its contents octets are the attributes that are left
pub record Entered (octets : List ℕ) (left entered : NameLeft) (own : List ℕ) (e : IsEncoding own) : Type 0 where
  pub parts : IsBehind left.parts entered.parts (length own)
  pub begins : entered.attributes.offset ≡ left.parts.offset + length (header_octets e.tag (length e.contents))
  pub lasts : entered.attributes.length ≡ length e.contents

abbrev pub Enters : List ℕ → NameLeft → NameLeft → Type 0
Enters octets left entered = (own : List ℕ) (e : IsEncoding own) → StandAt octets left.parts.offset own → length own ≤ left.parts.length → Entered octets left entered own e

-- no encoding is at the front of the parts that are left
abbrev pub EntersNone : List ℕ → NameLeft → Type 0
EntersNone octets left = (own : List ℕ) → IsEncoding own → StandAt octets left.parts.offset own → length own ≤ left.parts.length → ⊥

abbrev pub EntersNext : List ℕ → NameLeft → Option NameLeft → Type 0
EntersNext octets left None = EntersNone octets left
EntersNext octets left (Some entered) = Enters octets left entered

-- the attributes that are read next: those that are left of the part that was entered, or else those of the next part
pub record IsNext (octets : List ℕ) (left next : NameLeft) : Type 0 where
  pub parts_within : EndsWithin octets left.parts
  pub attributes_within : EndsWithin octets left.attributes
  pub same : 0 < left.attributes.length → next ≡ left
  pub enters : left.attributes.length ≡ 0 → Enters octets left next

-- what is left does not end within the octets, or no attribute is left of the part that was entered, and no part follows
abbrev pub NoneIsNext : List ℕ → NameLeft → Type 0
NoneIsNext octets left = EndsWithin octets left.parts → EndsWithin octets left.attributes → (left.attributes.length ≡ 0) × EntersNone octets left

abbrev pub FindsNext : List ℕ → NameLeft → Option NameLeft → Type 0
FindsNext octets left None = NoneIsNext octets left
FindsNext octets left (Some next) = IsNext octets left next

-- 100: nothing is next, and nothing is written
pub record NoAttribute {S : Type 0} (octets : List ℕ) (old_left left : NameLeft) (old new : S) (fault : Fault) (answer : ℕ) : Type 0 where
  pub none : NoneIsNext octets old_left
  pub number : answer ≡ 100
  pub written : fault ≡ fault_of_call 100
  pub unchanged : new ≡ old
  pub left_unchanged : left ≡ old_left

-- the attribute at the front of those that are next is read, and they are behind it
pub record AttributeGiven {T S : Type 0} (F : form.Ghosts T) (octets : List ℕ) (next left : NameLeft) (shows : T → List ℕ → S → Type 0) (new : S) (old_fault fault : Fault) (answer : ℕ) : Type 0 where
  pub no_fault : NoFault old_fault fault answer
  pub given : NextGiven F octets next.attributes left.attributes shows new
  pub parts : left.parts ≡ next.parts

-- or it is refused, with the reason, and nothing is written
pub record AttributeNotGiven {T S : Type 0} (F : form.Ghosts T) (octets : List ℕ) (next old_left left : NameLeft) (old new : S) (fault : Fault) (answer : ℕ) : Type 0 where
  pub reason : LeftRefused F octets next.attributes fault
  pub number : answer ≡ fault.number
  pub unchanged : new ≡ old
  pub left_unchanged : left ≡ old_left

-- the results of a call that reads the next attribute of a name, and moves what is left past it
abbrev pub AnswersNextAttribute : {T S : Type 0} → form.Ghosts T → List ℕ → NameLeft → NameLeft → (T → List ℕ → S → Type 0) → S → S → Fault → Fault → ℕ → Type 0
AnswersNextAttribute F octets old_left left shows old new old_fault fault answer =
    NoAttribute octets old_left left old new fault answer
    ⊎ ((next : NameLeft) × IsNext octets old_left next × (AttributeGiven F octets next left shows new old_fault fault answer ⊎ AttributeNotGiven F octets next old_left left old new fault answer))
