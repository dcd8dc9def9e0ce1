-- The values of a type that a constraint allows (X.680 49.8): contents octets of any other value are refused (13).
use Rattle.std.proofs.Common.{◌≡◌, ◌⊎◌, ℕ, List, Bool, true, false, if◌then◌else◌, Result, Ok, Err, refl, ap, ◌∙◌}
use Rattle.der_tlv.specs.declared.encoding_rules.EncodingRules.{EncodingRules}
use Rattle.der_tlv.specs.declared.error.ErrorKind.{ErrorKind}
use Rattle.der_tlv.specs.declared.error.ErrorKind.TheVariants.{Value}
use Rattle.der_tlv.specs.declared.error.Error.{Error}
use Rattle.der_tlv.specs.declared.tag.Tag.{Tag}
use Rattle.der_tlv.specs.OctetFaults.{IsOfOctets, of_octets_either}
use Rattle.der_elem.specs.ContentsFormat.{ContentsFormat}
use Rattle.der_elem.specs.Parsing.{ContentsParse}

-- the contents octets if they are those of an allowed value, or else an error (13) with the tag of the type
abbrev pub allowed_or_fault : Tag → (List ℕ → Bool) → Result (List ℕ) ErrorKind → Result (List ℕ) ErrorKind
allowed_or_fault tag allows (Ok octets) = if allows octets then Ok octets else Err (Value tag)
allowed_or_fault tag allows (Err kind) = Err kind

-- errors of the type come first
abbrev pub parse_allowed : Tag → (List ℕ → Bool) → ContentsParse → ContentsParse
parse_allowed tag allows parse rules p octets = allowed_or_fault tag allows (parse rules p octets)

-- the octets are accepted as the value, and the value is allowed
abbrev pub AcceptsAllowed : {T : Type 0} → (T → List ℕ) → (List ℕ → Bool) → (T → List ℕ → Type 0) → T → List ℕ → Type 0
AcceptsAllowed contents allows accepts v octets = accepts v octets × (allows (contents v) ≡ true)

-- a readable value that is allowed
abbrev pub ReadableAllowed : {T : Type 0} → (T → List ℕ) → (List ℕ → Bool) → (T → Type 0) → T → Type 0
ReadableAllowed contents allows readable v = readable v × (allows (contents v) ≡ true)

-- octets of an allowed value are parsed as by the type
pub parse_of_allowed : (tag : Tag) (allows : List ℕ → Bool) (octets : List ℕ) (found : Result (List ℕ) ErrorKind) → found ≡ Ok octets → allows octets ≡ true → allowed_or_fault tag allows found ≡ Ok octets
parse_of_allowed tag allows octets found e all = ap (allowed_or_fault tag allows) e ∙ rw all refl

-- octets of a value that is not allowed are refused
pub parse_of_refused : (tag : Tag) (allows : List ℕ → Bool) (octets : List ℕ) (found : Result (List ℕ) ErrorKind) → found ≡ Ok octets → allows octets ≡ false → allowed_or_fault tag allows found ≡ Err (Value tag)
parse_of_refused tag allows octets found e none = ap (allowed_or_fault tag allows) e ∙ rw none refl

-- no error is that memory ran out, or that the reader had failed
pub allowed_of_octets : (tag : Tag) (allows : List ℕ → Bool) (found : Result (List ℕ) ErrorKind) → IsOfOctets found → IsOfOctets (allowed_or_fault tag allows found)
allowed_of_octets tag allows (Ok octets) faults = of_octets_either (allows octets) (Ok octets) (Err (Value tag)) tt refl
allowed_of_octets tag allows (Err kind) faults = faults

-- the meaning of the contents octets of a type with a constraint on its values
abbrev pub allowed_format : {T : Type 0} → Tag → (List ℕ → Bool) → ContentsFormat T → ContentsFormat T
allowed_format tag allows F = record {
  contents = F.contents;
  comparable = F.comparable;
  re_reads = F.re_reads;
  accepts = λ rules. AcceptsAllowed F.contents allows (F.accepts rules);
  parse = parse_allowed tag allows F.parse;
  readable = ReadableAllowed F.contents allows F.readable;
  has_tag = F.has_tag;
  TAKES_MEMORY = F.TAKES_MEMORY;
  FAULTS_FIRST = false;
  parse_of_accepted = λ rules v p c a fits. parse_of_allowed tag allows (F.contents v) (F.parse rules p c) (F.parse_of_accepted rules v p c a.0 fits) a.1;
  faults_of_octets = λ rules p c. allowed_of_octets tag allows (F.parse rules p c) (F.faults_of_octets rules p c);
  same_length = λ rules v c a. F.same_length rules v c a.0;
  accepts_contents = λ rules v r. (F.accepts_contents rules v r.0, r.1);
  only_readable = λ rules v c a. (F.only_readable rules v c a.0, a.1);
  accepts_comparable = λ rules v w c d a b. F.accepts_comparable rules v w c d a.0 b.0;
  re_reads_memory = F.re_reads_memory;
}
