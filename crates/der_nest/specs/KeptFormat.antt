-- Contents octets that were read as those of a value, under DER, and are kept as they were read.
use Rattle.std.specs.Prelude.{◌≡◌, ℕ, ◌+◌, min, List, length, Bool, true, false, Option, Some, None, Result, Ok, Err, refl}
use Rattle.std.proofs.Common.{◌∙◌, ap, subst, sym}
use Rattle.der_tlv.specs.declared.error.ErrorKind.{ErrorKind}
use Rattle.der_tlv.specs.declared.error.Error.{Error}
use Rattle.der_tlv.specs.declared.encoding_rules.EncodingRules.TheVariants.{Der}
use Rattle.der_tlv.specs.OctetFaults.{IsOfOctets}
use Rattle.der_elem.specs.Accepting.{Fits}
use Rattle.der_elem.specs.ContentsFormat.{ContentsFormat}
use Rattle.der_elem.specs.Decoding.{Faults}
use Rattle.der_elem.specs.Parsing.{ContentsParse}

-- under DER these are the contents octets of a value of the type
pub record AreContentsOf {T : Type 0} (F : ContentsFormat T) (octets : List ℕ) : Type 0 where
  pub value : T
  pub accepted : F.accepts Der value octets

-- the octets themselves, if they are read as a value
abbrev pub as_they_came : List ℕ → Result (List ℕ) ErrorKind → Result (List ℕ) ErrorKind
as_they_came octets (Ok contents) = Ok octets
as_they_came octets (Err kind) = Err kind

-- the result of parsing contents octets to be kept, whatever the rules: they are read under DER, from position 0
abbrev pub parse_kept : ContentsParse → ContentsParse
parse_kept parse rules p octets = as_they_came octets (parse Der 0 octets)

-- the position of an error in contents octets, relative to the first octet of all; the contents octets are at this offset
abbrev pub position_behind : ℕ → Option ℕ → Option ℕ
position_behind begin (Some position) = Some (min (begin + position) 4294967295)
position_behind begin None = None

pub kept_of_octets : (octets : List ℕ) (r : Result (List ℕ) ErrorKind) → IsOfOctets r → IsOfOctets (as_they_came octets r)
kept_of_octets octets (Ok contents) h = tt
kept_of_octets octets (Err kind) h = h

pub no_re_reading : (takes : Bool) → false ≡ true → takes ≡ true
no_re_reading takes e = absurd (cc)

module _ {V T : Type 0} (octets_of : V → List ℕ) (F : ContentsFormat T) where
  -- a value that keeps them is read from exactly these octets
  pub record Keeps (v : V) (octets : List ℕ) : Type 0 where
    pub own : octets_of v ≡ octets
    pub read : AreContentsOf F octets

  -- the octets were read as those of a value and are kept, or nothing is kept: memory ran out, or this is their first error
  abbrev pub KeepsContents : List ℕ → Result V Error → Type 0
  KeepsContents octets (Ok kept) = Keeps kept octets
  KeepsContents octets (Err e) = Faults F.TAKES_MEMORY F.FAULTS_FIRST (F.parse Der 0 octets) e.kind

  pub parse_of_kept : (v : V) (octets : List ℕ) → Keeps v octets → Fits octets → as_they_came octets (F.parse Der 0 octets) ≡ Ok (octets_of v)
  parse_of_kept v octets k fits = ap (as_they_came octets) (F.parse_of_accepted Der k.read.value 0 octets k.read.accepted fits) ∙ ap Ok (sym k.own)

  -- the contents octets of a type, kept as they were read
  abbrev pub kept_format : ContentsFormat V
  kept_format = record {
    contents = octets_of;
    comparable = λ v w. Unit {0};
    re_reads = λ v. false;
    accepts = λ rules. Keeps;
    parse = parse_kept F.parse;
    readable = λ v. AreContentsOf F (octets_of v);
    has_tag = λ v t. Unit {0};
    TAKES_MEMORY = F.TAKES_MEMORY;
    FAULTS_FIRST = F.FAULTS_FIRST;
    parse_of_accepted = λ rules v p. parse_of_kept v;
    faults_of_octets = λ rules p octets. kept_of_octets octets _ (F.faults_of_octets Der 0 octets);
    same_length = λ rules v octets k. ap length k.own;
    accepts_contents = λ rules v r. record { own = refl; read = r };
    only_readable = λ rules v octets k. subst (AreContentsOf F) (sym k.own) k.read;
    accepts_comparable = λ rules v w c d a b. tt;
    re_reads_memory = λ v. no_re_reading F.TAKES_MEMORY;
  }
