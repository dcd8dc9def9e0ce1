-- The results of checking values to a depth, and the first error.
use Rattle.std.specs.Prelude.{◌≡◌, ℕ, zero, suc, ◌<◌, ◌≤◌, ◌^◌, List, ◌∷◌, ◌++◌, length, ◌⊎◌, Result, Ok, Err}
use Rattle.std.specs.List.{All}
use Rattle.der_tlv.specs.declared.error.Error.{Error}
use Rattle.der_tlv.specs.declared.error.ErrorKind.{ErrorKind}
use Rattle.der_tlv.specs.declared.error.ErrorKind.TheVariants.{Overflow, Overlength}
use Rattle.der_tlv.specs.declared.encoding_rules.EncodingRules.TheVariants.{Der}
use Rattle.der_elem.specs.declared.form.Form as form
use Rattle.der_elem.specs.Items.{AcceptsItems}
use Rattle.der_recursive.specs.Depth.{AreValuesTo}

-- in a list of octets, the first are as wanted, and the next is faulty
pub record FirstFaulty (Wanted Faulty : List ℕ → Type 0) (all : List (List ℕ)) : Type 0 where
  pub before : List (List ℕ)
  pub octets : List ℕ
  pub after : List (List ℕ)
  pub all_are : all ≡ before ++ octets ∷ after
  pub wanted : All Wanted before
  pub faulty : Faulty octets

-- more octets than a length can count (9)
pub record TooMany (octets : List ℕ) (kind : ErrorKind) : Type 0 where
  pub long : 2 ^ 32 ≤ length octets
  pub kind_is : kind ≡ Overflow

-- octets where no value is allowed (10)
pub record TooDeep (octets : List ℕ) (kind : ErrorKind) : Type 0 where
  pub fits : length octets < 2 ^ 32
  pub some : 0 < length octets
  pub kind_is : kind ≡ Overlength

module _ {T : Type 0} (F : form.Ghosts T) (held : T → List (List ℕ)) where
  -- a value is at the front, and it holds faulty octets
  pub record FaultWithin (Wanted Faulty : List ℕ → Type 0) (octets : List ℕ) : Type 0 where
    pub value : T
    pub part : List ℕ
    pub others : List ℕ
    pub octets_are : octets ≡ part ++ others
    pub accepted : F.accepts Der value part
    pub holds : FirstFaulty Wanted Faulty (held value)

  -- at a position no value is parsed, for this reason, or the value there holds faulty octets
  abbrev pub NextFault : (List ℕ → Type 0) → (List ℕ → ErrorKind → Type 0) → ℕ → List ℕ → ErrorKind → Type 0
  NextFault Wanted Faulty p octets kind = (F.parse Der p octets ≡ Err kind) ⊎ FaultWithin Wanted (λ octets. Faulty octets kind) octets

  -- values that hold what is wanted come first, and then an error
  pub record FaultBehind (Wanted : List ℕ → Type 0) (Faulty : List ℕ → ErrorKind → Type 0) (octets : List ℕ) (kind : ErrorKind) : Type 0 where
    pub values : List T
    pub front : List ℕ
    pub left : List ℕ
    pub octets_are : octets ≡ front ++ left
    pub fits : length octets < 2 ^ 32
    pub some : 0 < length left
    pub accepted : AcceptsItems (F.accepts Der) values front
    pub within : All (λ v. All Wanted (held v)) values
    pub next : NextFault Wanted Faulty (length front) left kind

  -- The first error in octets that must be values to a depth. A value comes first, then the octets that it holds, then the next value.
  unfoldable pub IsFirstFault : ℕ → List ℕ → ErrorKind → Type 0
  IsFirstFault zero octets kind = TooMany octets kind ⊎ TooDeep octets kind
  IsFirstFault (suc n) octets kind = TooMany octets kind ⊎ FaultBehind (AreValuesTo F held n) (IsFirstFault n) octets kind

  -- the octets are not values to a depth, and this is their first error
  pub record AreNot (depth : ℕ) (octets : List ℕ) (kind : ErrorKind) : Type 0 where
    pub fault : IsFirstFault depth octets kind
    pub nothing : AreValuesTo F held depth octets → ⊥

  -- the results of checking octets to a depth
  abbrev pub ChecksDepth : ℕ → List ℕ → Result (Unit {0}) Error → Type 0
  ChecksDepth depth octets (Ok done) = AreValuesTo F held depth octets
  ChecksDepth depth octets (Err e) = AreNot depth octets e.kind
