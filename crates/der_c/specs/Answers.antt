-- The results of a call: 0 and the value that was read, or the number of the first error.
use Rattle.std.specs.Prelude.{◌≡◌, ◌⊎◌, ℕ, ◌^◌, ◌≤◌, List, length, take, Option, None, Some, Ok}
use Rattle.der_tlv.specs.declared.encoding_rules.EncodingRules.TheVariants.{Der}
use Rattle.der_tlv.specs.declared.error.Error.{Error}
use Rattle.der_tlv.specs.declared.error.ErrorKind.{ErrorKind}
use Rattle.der_tlv.specs.declared.error.ErrorKind.TheVariants.{Overflow}
use Rattle.der_tlv.specs.ErrorNumber.{error_number}
use Rattle.der_elem.specs.Accepting.{Fits}
use Rattle.der_elem.specs.Decoding.{AllRead, Faults, NotAllRead, RanOut}
use Rattle.der_elem.specs.declared.form.Form as form
use Rattle.der_places.specs.Layout.{LaidOut, Layout}
use Rattle.der_places.specs.declared.place.Place.{Place}
use Rattle.der_c.specs.declared.fault.Fault.{Fault}

-- 0: no error is written
pub record NoFault (old new : Fault) (answer : ℕ) : Type 0 where
  pub number : answer ≡ 0
  pub unchanged : new ≡ old

-- whether a position is known, and the position, or 0
abbrev pub placing : Option ℕ → ℕ × ℕ
placing None = (0, 0)
placing (Some position) = (1, position)

-- an error as it is written: its number, 1 to 17, and its position if it has one
abbrev pub fault_of : Error → Fault
fault_of error = record { number = error_number error.kind; is_placed = (placing error.position).0; position = (placing error.position).1 }

-- an error of the call itself as it is written, with no position
abbrev pub fault_of_call : ℕ → Fault
fault_of_call answer = record { number = answer; is_placed = 0; position = 0 }

-- the number of an error is returned, the error is written with its position, and the output of the call is unchanged
pub record IsFault {S : Type 0} (error : Error) (old new : S) (fault : Fault) (answer : ℕ) : Type 0 where
  pub number : answer ≡ error_number error.kind
  pub written : fault ≡ fault_of error
  pub unchanged : new ≡ old

-- all octets are read as a value, and `shows` holds for it
pub record Given {T S : Type 0} (F : form.Ghosts T) (octets : List ℕ) (shows : T → S → Type 0) (new : S) : Type 0 where
  pub value : T
  pub read : AllRead F octets value
  pub shown : shows value new

-- memory ran out, or this is the first error of the octets
abbrev pub Refuses : {T : Type 0} → form.Ghosts T → List ℕ → ErrorKind → Type 0
Refuses F octets kind = RanOut F.TAKES_MEMORY F.FAULTS_FIRST (F.parse Der 0 octets) kind ⊎ NotAllRead F octets kind

-- the octets are refused, with the reason
pub record NotGiven {T S : Type 0} (F : form.Ghosts T) (octets : List ℕ) (old new : S) (fault : Fault) (answer : ℕ) : Type 0 where
  pub error : Error
  pub reason : Refuses F octets error.kind
  pub is_fault : IsFault error old new fault answer

-- the results of a call that reads all octets
abbrev pub Answers : {T S : Type 0} → form.Ghosts T → List ℕ → (T → S → Type 0) → S → S → Fault → Fault → ℕ → Type 0
Answers F octets shows old new old_fault fault answer = (NoFault old_fault fault answer × Given F octets shows new) ⊎ NotGiven F octets old new fault answer

-- the results of a call that reads all octets as a message, and writes the byte ranges of its fields, which lie one after another
abbrev pub AnswersPlaces : {T P : Type 0} → form.Ghosts T → (T → Layout) → (P → List Place) → List ℕ → P → P → Fault → Fault → ℕ → Type 0
AnswersPlaces F layout listed octets old new old_fault fault answer =
    Answers F octets (λ v at. LaidOut (layout v) 0 (listed at) octets) old new old_fault fault answer

-- all octets are read as a value
pub record IsRead {T : Type 0} (F : form.Ghosts T) (octets : List ℕ) : Type 0 where
  pub value : T
  pub read : AllRead F octets value

-- all octets of both inputs are read as values, and `shows` holds for both
pub record GivenPair {T U S : Type 0} (F : form.Ghosts T) (G : form.Ghosts U) (first second : List ℕ) (shows : T → U → S → Type 0) (new : S) : Type 0 where
  pub one : T
  pub other : U
  pub read_one : AllRead F first one
  pub read_other : AllRead G second other
  pub shown : shows one other new

-- the results of a call that reads all octets of two inputs: it returns an error of the second only if the first is read
abbrev pub AnswersPair : {T U S : Type 0} → form.Ghosts T → form.Ghosts U → List ℕ → List ℕ → (T → U → S → Type 0) → S → S → Fault → Fault → ℕ → Type 0
AnswersPair F G first second shows old new old_fault fault answer =
    (NoFault old_fault fault answer × GivenPair F G first second shows new)
    ⊎ (NotGiven F first old new fault answer
    ⊎ (IsRead F first × NotGiven G second old new fault answer))

-- the first `taken` octets are read as a value
pub record FrontRead {T : Type 0} (F : form.Ghosts T) (octets : List ℕ) (value : T) (taken : ℕ) : Type 0 where
  pub parsed : F.parse Der 0 octets ≡ Ok (taken, F.encoding value)
  pub accepted : F.accepts Der value (take taken octets)
  pub fits : Fits octets

-- no value is read from the front, for this reason; or no length can count the octets (9), and nothing is read
abbrev pub FrontRefused : {T : Type 0} → form.Ghosts T → List ℕ → ErrorKind → Type 0
FrontRefused F octets kind = (Fits octets × Faults F.TAKES_MEMORY F.FAULTS_FIRST (F.parse Der 0 octets) kind) ⊎ ((kind ≡ Overflow) × (2 ^ 32 ≤ length octets))

-- the first `taken` octets are read as a value, and `shows` holds for both
pub record FrontGiven {T S : Type 0} (F : form.Ghosts T) (octets : List ℕ) (shows : T → ℕ → S → Type 0) (new : S) : Type 0 where
  pub value : T
  pub taken : ℕ
  pub read : FrontRead F octets value taken
  pub shown : shows value taken new

-- the octets at the front are refused, with the reason
pub record FrontNotGiven {T S : Type 0} (F : form.Ghosts T) (octets : List ℕ) (old new : S) (fault : Fault) (answer : ℕ) : Type 0 where
  pub error : Error
  pub reason : FrontRefused F octets error.kind
  pub is_fault : IsFault error old new fault answer

-- the results of a call that reads a value at the front of the octets
abbrev pub AnswersFront : {T S : Type 0} → form.Ghosts T → List ℕ → (T → ℕ → S → Type 0) → S → S → Fault → Fault → ℕ → Type 0
AnswersFront F octets shows old new old_fault fault answer = (NoFault old_fault fault answer × FrontGiven F octets shows new) ⊎ FrontNotGiven F octets old new fault answer
