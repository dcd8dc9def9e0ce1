-- The results of the calls of readers, and the state after each.
use Rattle.std.specs.Prelude.{◌≡◌, ℕ, ◌^◌, ◌<◌, ◌≤◌, List, [], ◌∷◌, length, take, true, false, Result, Ok, Err}
use Rattle.der_tlv.specs.declared.error.ErrorKind.{ErrorKind}
use Rattle.der_tlv.specs.declared.error.ErrorKind.TheVariants.{Overflow, Failed}
use Rattle.der_tlv.specs.declared.error.Error.{Error}
use Rattle.der_tlv.specs.declared.encoding_rules.EncodingRules.{EncodingRules}
use Rattle.der_tlv.specs.ReaderState.{ReaderState, rest, after_read, after_fault, can_read, read_fault, read_fault_at, after_nest, after_unnest, can_unnest, unnest_fault, new_reader, unless_failed}

-- a refusal: its kind, and a reader that has failed and is otherwise unchanged
pub record Refuses (old new : ReaderState) (kind fault : ErrorKind) : Type 0 where
  pub fault_is : kind ≡ fault
  pub after : new ≡ after_fault old

-- The state after a call that uses a reader and refuses, whatever it had read before: the reader is failed; its input and its rules are
-- unchanged; its position is not before the old one, and its end is not after the old one (no reader's position is after its end).
-- On a reader that had failed nothing changes, and the result is (17).
pub record Refused (old new : ReaderState) (kind : ErrorKind) : Type 0 where
  pub failed : new.failed ≡ true
  pub input : new.input ≡ old.input
  pub rules : new.rules ≡ old.rules
  pub onward : old.position ≤ new.position
  pub narrower : new.end ≤ old.end
  pub again : old.failed ≡ true → (kind ≡ Failed) × (new ≡ old)

-- The state after a call that reads without a refusal: the reader had not failed, and its position is not before the old one.
pub record Passed (old new : ReaderState) : Type 0 where
  pub ready : old.failed ≡ false
  pub still : new.failed ≡ false
  pub input : new.input ≡ old.input
  pub rules : new.rules ≡ old.rules
  pub end : new.end ≡ old.end
  pub onward : old.position ≤ new.position

-- the state after a call that reads, for any value
abbrev pub Stands : {A : Type 0} → ReaderState → ReaderState → Result A Error → Type 0
Stands old new (Ok v) = Passed old new
Stands old new (Err e) = Refused old new e.kind

-- one octet was read
pub record OctetRead (old new : ReaderState) (octet : ℕ) : Type 0 where
  pub ready : old.failed ≡ false
  pub first : rest old ≡ octet ∷ rest new
  pub after : new ≡ after_read old 1

-- the result of reading an octet
abbrev pub ReadsOctet : ReaderState → ReaderState → Result ℕ Error → Type 0
ReadsOctet old new (Ok octet) = OctetRead old new octet
ReadsOctet old new (Err e) =
    Refuses old new e.kind (read_fault old 1) × (old.failed ≡ false → rest old ≡ []) × (old.failed ≡ false → e.kind ≡ read_fault_at old.position 1 0)

-- n octets were read
pub record OctetsRead (old new : ReaderState) (n : ℕ) (octets : List ℕ) : Type 0 where
  pub readable : can_read old n ≡ true
  pub value : octets ≡ take n (rest old)
  pub count : length octets ≡ n
  pub after : new ≡ after_read old n

-- a refusal to read n octets
pub record OctetsRefused (old new : ReaderState) (n : ℕ) (kind : ErrorKind) : Type 0 where
  pub unreadable : can_read old n ≡ false
  pub fault_is : kind ≡ read_fault old n
  pub after : new ≡ after_fault old

-- nesting returns the end before it
pub record Nested (old new : ReaderState) (n end : ℕ) : Type 0 where
  pub readable : can_read old n ≡ true
  pub end_is : end ≡ old.end
  pub after : new ≡ after_nest old n

abbrev pub Nests : ReaderState → ReaderState → ℕ → Result ℕ Error → Type 0
Nests old new n (Ok end) = Nested old new n end
Nests old new n (Err e) = OctetsRefused old new n e.kind

-- the end was put back
pub record Unnested (old new : ReaderState) (end : ℕ) : Type 0 where
  pub possible : can_unnest old end ≡ true
  pub after : new ≡ after_unnest old end

pub record UnnestRefused (old new : ReaderState) (end : ℕ) (kind : ErrorKind) : Type 0 where
  pub impossible : can_unnest old end ≡ false
  pub fault_is : kind ≡ unnest_fault old
  pub after : new ≡ after_fault old

abbrev pub Unnests : ReaderState → ReaderState → ℕ → Result (Unit {0}) Error → Type 0
Unnests old new end (Ok u) = Unnested old new end
Unnests old new end (Err e) = UnnestRefused old new end e.kind

-- a value was read whose octets are these
pub record HeadRead {A : Type 0} (parse : ℕ → List ℕ → Result (ℕ × A) ErrorKind) (octets : List ℕ) (old new : ReaderState) (v : A) : Type 0 where
  pub ready : old.failed ≡ false
  pub parsed : parse old.position (rest old) ≡ Ok (length octets, v)
  pub taken : take (length octets) (rest old) ≡ octets
  pub after : new ≡ after_read old (length octets)

-- the first error of the value that should have been read
pub record HeadFault {A : Type 0} (parse : ℕ → List ℕ → Result (ℕ × A) ErrorKind) (old new : ReaderState) (kind : ErrorKind) : Type 0 where
  pub fault_is : unless_failed parse old ≡ Err kind
  pub reader : Refused old new kind

-- the result of a call that reads a value with these octets
abbrev pub ReadsHead : {A : Type 0} → (ℕ → List ℕ → Result (ℕ × A) ErrorKind) → (A → List ℕ) → ReaderState → ReaderState → Result A Error → Type 0
ReadsHead parse octets_of old new (Ok v) = HeadRead parse (octets_of v) old new v
ReadsHead parse octets_of old new (Err e) = HeadFault parse old new e.kind

-- looking at the next value: the reader is unchanged, or has failed
pub record HeadSeen {A : Type 0} (parse : ℕ → List ℕ → Result (ℕ × A) ErrorKind) (octets : List ℕ) (old new : ReaderState) (v : A) : Type 0 where
  pub ready : old.failed ≡ false
  pub parsed : parse old.position (rest old) ≡ Ok (length octets, v)
  pub taken : take (length octets) (rest old) ≡ octets
  pub after : new ≡ old

abbrev pub PeeksHead : {A : Type 0} → (ℕ → List ℕ → Result (ℕ × A) ErrorKind) → (A → List ℕ) → ReaderState → ReaderState → Result A Error → Type 0
PeeksHead parse octets_of old new (Ok v) = HeadSeen parse (octets_of v) old new v
PeeksHead parse octets_of old new (Err e) = HeadFault parse old new e.kind

-- a reader of all the octets, if their number fits a length
abbrev pub Opens : List ℕ → EncodingRules → Result ReaderState Error → Type 0
Opens octets rules (Ok s) = (s ≡ new_reader octets rules) × (length octets < 2 ^ 32)
Opens octets rules (Err e) = (e.kind ≡ Overflow) × (2 ^ 32 ≤ length octets)
