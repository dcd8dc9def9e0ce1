-- The results of a call that makes a value from parts that stand in octets, and writes its encoding to a buffer of the caller.
use Rattle.std.specs.Prelude.{◌≡◌, ◌⊎◌, ℕ, ◌+◌, ◌<◌, ◌≤◌, ◌^◌, List, length, take, drop, Result, Ok, Err}
use Rattle.der_tlv.specs.declared.error.Error.{Error}
use Rattle.der_tlv.specs.declared.error.ErrorKind.{ErrorKind}
use Rattle.der_tlv.specs.declared.error.ErrorKind.TheVariants.{Overflow}
use Rattle.der_elem.specs.Decoding.{AllRead}
use Rattle.der_elem.specs.declared.form.Form as form
use Rattle.der_places.specs.declared.place.Place.{Place}
use Rattle.der_c.specs.Answers.{Refuses, fault_of, fault_of_call}
use Rattle.der_c.specs.Rooms.{Written}
use Rattle.der_c.specs.declared.fault.Fault.{Fault}

-- the octets at a byte range
abbrev pub octets_at : List ℕ → Place → List ℕ
octets_at octets place = take place.length (drop place.offset octets)

-- a byte range with octets ends within the octets
abbrev pub IsWithin : List ℕ → Place → Type 0
IsWithin octets place = 0 < place.length → place.offset + place.length ≤ length octets

-- all octets at a byte range are read as a value; an absent value is read from no octets
pub record IsAt {T : Type 0} (F : form.Ghosts T) (octets : List ℕ) (place : Place) (value : T) : Type 0 where
  pub within : IsWithin octets place
  pub read : AllRead F (octets_at octets place) value

-- 100: a byte range that is not within the octets
pub record IsOutside (octets : List ℕ) (place : Place) (fault : Fault) : Type 0 where
  pub outside : IsWithin octets place → ⊥
  pub written : fault ≡ fault_of_call 100

-- the octets at a byte range are refused, with the reason
pub record IsRefused {T : Type 0} (F : form.Ghosts T) (octets : List ℕ) (place : Place) (fault : Fault) : Type 0 where
  pub within : IsWithin octets place
  pub error : Error
  pub reason : Refuses F (octets_at octets place) error.kind
  pub written : fault ≡ fault_of error

-- no value is read from a byte range
abbrev pub NoneAt : {T : Type 0} → form.Ghosts T → List ℕ → Place → Fault → Type 0
NoneAt F octets place fault = IsOutside octets place fault ⊎ IsRefused F octets place fault

-- The parts of a value: numbers, which it shows or for which there is no value; and fields, which are read from byte ranges, in their order.
pub data Parts (V : Type 0) : Type 1 where
  no_more : Parts V
  number : (V → Type 0) → (Fault → Type 0) → Parts V → Parts V
  field : {T : Type 0} → form.Ghosts T → Place → (V → T) → Parts V → Parts V

-- the value has these parts
abbrev pub HasParts : {V : Type 0} → List ℕ → Parts V → V → Type 0
HasParts octets no_more v = Unit {0}
HasParts octets (number shown refused others) v = shown v × HasParts octets others v
HasParts octets (field F place of others) v = IsAt F octets place (of v) × HasParts octets others v

-- the first part that is refused, and why: the parts before it are read
abbrev pub FirstRefused : {V : Type 0} → List ℕ → Parts V → Fault → Type 0
FirstRefused octets no_more fault = ⊥
FirstRefused octets (number shown refused others) fault = refused fault ⊎ FirstRefused octets others fault
FirstRefused octets (field {T} F place of others) fault = NoneAt F octets place fault ⊎ (((value : T) × IsAt F octets place value) × FirstRefused octets others fault)

-- a value is made from its parts, or the first part that is refused is told
abbrev pub Makes : {V : Type 0} → List ℕ → Parts V → Result V Fault → Type 0
Makes octets parts (Ok v) = HasParts octets parts v
Makes octets parts (Err fault) = FirstRefused octets parts fault

-- the parts of a part
abbrev pub within : {V W : Type 0} → (W → V) → Parts V → Parts W
within of no_more = no_more
within of (number shown refused others) = number (λ w. shown (of w)) refused (within of others)
within of (field F place at others) = field F place (λ w. at (of w)) (within of others)

-- an error of this kind
abbrev pub IsOfKind : ErrorKind → Fault → Type 0
IsOfKind kind fault = (error : Error) × (error.kind ≡ kind) × (fault ≡ fault_of error)

-- `shows` holds for a value, and the encoding of the value is written; or the buffer is too short for it
pub record Built {T : Type 0} (F : form.Ghosts T) (shows : T → Type 0) (old new : List ℕ) (count : ℕ) (old_fault fault : Fault) (answer : ℕ) : Type 0 where
  pub value : T
  pub shown : shows value
  pub written : Written (F.encoding value) old new count old_fault fault answer

-- 9: `shows` holds for a value, whose encoding has more octets than a length can count
pub record TooLong {T : Type 0} (F : form.Ghosts T) (shows : T → Type 0) (fault : Fault) : Type 0 where
  pub value : T
  pub shown : shows value
  pub long : 2 ^ 32 ≤ length (F.encoding value)
  pub is_fault : IsOfKind Overflow fault

-- an error is returned, and the buffer and the count are unchanged
pub record NotWritten (old new : List ℕ) (old_count count : ℕ) (fault : Fault) (answer : ℕ) : Type 0 where
  pub number : answer ≡ fault.number
  pub unchanged : new ≡ old
  pub count_is : count ≡ old_count

-- the results of a call that writes the encoding of a value for which `shows` holds, if `refuses` holds where there is none
abbrev pub Builds : {T : Type 0} → form.Ghosts T → (T → Type 0) → (Fault → Type 0) → List ℕ → List ℕ → ℕ → ℕ → Fault → Fault → ℕ → Type 0
Builds F shows refuses old new old_count count old_fault fault answer =
    Built F shows old new count old_fault fault answer
    ⊎ ((refuses fault ⊎ TooLong F shows fault) × NotWritten old new old_count count fault answer)

-- the results of a call that makes a value from its parts
abbrev pub BuildsFrom : {T : Type 0} → form.Ghosts T → List ℕ → Parts T → List ℕ → List ℕ → ℕ → ℕ → Fault → Fault → ℕ → Type 0
BuildsFrom F octets parts = Builds F (HasParts octets parts) (FirstRefused octets parts)

-- the results of writing a value that was made, or of telling why it was not
abbrev pub WritesMade : {T : Type 0} → form.Ghosts T → Result T Fault → List ℕ → List ℕ → ℕ → ℕ → Fault → Fault → ℕ → Type 0
WritesMade F (Ok v) = Builds F (λ w. w ≡ v) (λ f. ⊥)
WritesMade F (Err reason) = λ old new old_count count old_fault fault answer. (fault ≡ reason) × NotWritten old new old_count count fault answer
