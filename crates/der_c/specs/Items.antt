-- Items of a list that are read one after another: the results of a call that reads the next one.
use Rattle.std.specs.Prelude.{◌≡◌, ◌⊎◌, ℕ, ◌+◌, ◌≤◌, ◌^◌, List, length, take, Option, None, Some}
use Rattle.der_tlv.specs.declared.encoding_rules.EncodingRules.TheVariants.{Der}
use Rattle.der_tlv.specs.declared.error.Error.{Error}
use Rattle.der_tlv.specs.declared.error.ErrorKind.TheVariants.{Overflow}
use Rattle.der_elem.specs.Accepting.{Fits}
use Rattle.der_elem.specs.declared.form.Form as form
use Rattle.der_places.specs.Layout.{LaidOut, Layout}
use Rattle.der_places.specs.Walking.{StandAt}
use Rattle.der_places.specs.declared.place.Place.{Place}
use Rattle.der_c.specs.Answers.{FrontRead, FrontRefused, NoFault, fault_of, fault_of_call}
use Rattle.der_c.specs.Building.{octets_at}
use Rattle.der_c.specs.declared.fault.Fault.{Fault}

-- a byte range that ends within the octets
abbrev pub EndsWithin : List ℕ → Place → Type 0
EndsWithin octets place = place.offset + place.length ≤ length octets

-- a position that counts from the start of all octets is not before the offset where reading began
abbrev pub IsFrom : ℕ → Option ℕ → Type 0
IsFrom offset None = Unit {0}
IsFrom offset (Some position) = offset ≤ position

-- a value is read from octets that stand at an offset
pub record ReadAt {T : Type 0} (F : form.Ghosts T) (octets : List ℕ) (offset : ℕ) (value : T) (own : List ℕ) : Type 0 where
  pub accepted : F.accepts Der value own
  pub stands : StandAt octets offset own

-- the first `taken` octets of what is left are read as a value
pub record LeftRead {T : Type 0} (F : form.Ghosts T) (octets : List ℕ) (left : Place) (value : T) (taken : ℕ) : Type 0 where
  pub fits : Fits octets
  pub within : EndsWithin octets left
  pub read : FrontRead F (octets_at octets left) value taken
  pub some : taken ≤ left.length

-- 9: more octets than a length can count
pub record TooManyOctets (octets : List ℕ) (fault : Fault) : Type 0 where
  pub long : 2 ^ 32 ≤ length octets
  pub error : Error
  pub kind_is : error.kind ≡ Overflow
  pub written : fault ≡ fault_of error

-- 100: what is left does not end within the octets
pub record LeftOutside (octets : List ℕ) (left : Place) (fault : Fault) : Type 0 where
  pub outside : EndsWithin octets left → ⊥
  pub written : fault ≡ fault_of_call 100

-- no value is read from the front of what is left, with the reason
pub record LeftNotRead {T : Type 0} (F : form.Ghosts T) (octets : List ℕ) (left : Place) (fault : Fault) : Type 0 where
  pub within : EndsWithin octets left
  pub error : Error
  pub reason : FrontRefused F (octets_at octets left) error.kind
  pub is_from : IsFrom left.offset error.position
  pub written : fault ≡ fault_of error

abbrev pub LeftRefused : {T : Type 0} → form.Ghosts T → List ℕ → Place → Fault → Type 0
LeftRefused F octets left fault = TooManyOctets octets fault ⊎ (LeftOutside octets left fault ⊎ LeftNotRead F octets left fault)

-- a value was read from the front of what is left, and this is its byte range
pub record FrontIs {T : Type 0} (F : form.Ghosts T) (octets : List ℕ) (left : Place) (value : T) (place : Place) : Type 0 where
  pub read : LeftRead F octets left value place.length
  pub begins : place.offset ≡ left.offset

-- what is left begins after the octets that were taken, and ends where it ended
pub record IsBehind (old new : Place) (taken : ℕ) : Type 0 where
  pub begins : new.offset ≡ old.offset + taken
  pub ends : new.offset + new.length ≡ old.offset + old.length

-- the octets at the front of what was left are read as a value, `shows` holds for it and for these octets, and what is left is behind them
pub record NextGiven {T S : Type 0} (F : form.Ghosts T) (octets : List ℕ) (old_left left : Place) (shows : T → List ℕ → S → Type 0) (new : S) : Type 0 where
  pub value : T
  pub taken : ℕ
  pub read : LeftRead F octets old_left value taken
  pub shown : shows value (take taken (octets_at octets old_left)) new
  pub behind : IsBehind old_left left taken

-- an error is returned, with the reason, and the output and what is left are unchanged
pub record NextNotGiven {T S : Type 0} (F : form.Ghosts T) (octets : List ℕ) (old_left left : Place) (old new : S) (fault : Fault) (answer : ℕ) : Type 0 where
  pub reason : LeftRefused F octets old_left fault
  pub number : answer ≡ fault.number
  pub unchanged : new ≡ old
  pub left_unchanged : left ≡ old_left

-- the results of a call that reads the item at the front of what is left, and moves what is left past it
abbrev pub AnswersNext : {T S : Type 0} → form.Ghosts T → List ℕ → Place → Place → (T → List ℕ → S → Type 0) → S → S → Fault → Fault → ℕ → Type 0
AnswersNext F octets old_left left shows old new old_fault fault answer =
    (NoFault old_fault fault answer × NextGiven F octets old_left left shows new)
    ⊎ NextNotGiven F octets old_left left old new fault answer

-- the same of a message whose fields are at byte ranges that count from the start of all octets
abbrev pub AnswersNextPlaces : {T P : Type 0} → form.Ghosts T → (T → Layout) → (P → List Place) → List ℕ → Place → Place → P → P → Fault → Fault → ℕ → Type 0
AnswersNextPlaces F layout listed octets old_left left old new old_fault fault answer =
    AnswersNext F octets old_left left (λ v own at. LaidOut (layout v) old_left.offset (listed at) own) old new old_fault fault answer
