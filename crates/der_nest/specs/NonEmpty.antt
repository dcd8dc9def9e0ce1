-- Lists of at least one item: the type constrained by SIZE (1..MAX) (X.680 51.5).
use Rattle.std.proofs.Common.{◌≡◌, ℕ, ◌<◌, List, [], ◌∷◌, length, Err, refl, sym, ◌∙◌, subst, arith}
use Rattle.der_tlv.specs.declared.encoding_rules.EncodingRules.{EncodingRules}
use Rattle.der_tlv.specs.declared.error.ErrorKind.TheVariants.{Value}
use Rattle.der_tlv.specs.declared.tag.Tag.{Tag}
use Rattle.der_tlv.specs.OctetFaults.{IsOfOctets}
use Rattle.der_elem.specs.ContentsFormat.{ContentsFormat}
use Rattle.der_elem.specs.Parsing.{ContentsParse}

-- empty contents octets are not a value of the type (13); others are parsed as the list
abbrev pub parse_some : Tag → ContentsParse → ContentsParse
parse_some tag parse rules p [] = Err (Value tag)
parse_some tag parse rules p (x ∷ xs) = parse rules p (x ∷ xs)

-- the octets are accepted as the list and are not empty
abbrev pub AcceptsSome : {T : Type 0} → (T → List ℕ → Type 0) → T → List ℕ → Type 0
AcceptsSome accepts v octets = accepts v octets × (0 < length octets)

-- a readable list that has contents octets
abbrev pub ReadableSome : {T : Type 0} → (T → Type 0) → (T → List ℕ) → T → Type 0
ReadableSome readable contents v = readable v × (0 < length (contents v))

-- octets that are not empty are parsed as the list
pub parse_of_some : (tag : Tag) (parse : ContentsParse) (rules : EncodingRules) (p : ℕ) (c : List ℕ) → 0 < length c → parse_some tag parse rules p c ≡ parse rules p c
parse_of_some tag parse rules p [] some = absurd (omega (arith, some))
parse_of_some tag parse rules p (x ∷ xs) some = refl

-- empty octets are not a value
pub parse_of_none : (tag : Tag) (parse : ContentsParse) (rules : EncodingRules) (p : ℕ) (c : List ℕ) → c ≡ [] → parse_some tag parse rules p c ≡ Err (Value tag)
parse_of_none tag parse rules p [] none = refl
parse_of_none tag parse rules p (x ∷ xs) none = absurd (cc)

-- the errors are neither lack of memory nor the error of a reader that had failed before
pub some_of_octets : (tag : Tag) (parse : ContentsParse) (faults : (rules : EncodingRules) (p : ℕ) (c : List ℕ) → IsOfOctets (parse rules p c)) (rules : EncodingRules) (p : ℕ) (c : List ℕ) → IsOfOctets (parse_some tag parse rules p c)
some_of_octets tag parse faults rules p [] = refl
some_of_octets tag parse faults rules p (x ∷ xs) = faults rules p (x ∷ xs)

-- the meaning of the octets of a list of at least one item
abbrev pub non_empty_format : {T : Type 0} → Tag → ContentsFormat T → ContentsFormat T
non_empty_format tag F = record {
  contents = F.contents;
  comparable = F.comparable;
  re_reads = F.re_reads;
  accepts = λ rules. AcceptsSome (F.accepts rules);
  parse = parse_some tag F.parse;
  readable = ReadableSome F.readable F.contents;
  has_tag = F.has_tag;
  TAKES_MEMORY = F.TAKES_MEMORY;
  FAULTS_FIRST = F.FAULTS_FIRST;
  parse_of_accepted = λ rules v p c a fits. parse_of_some tag F.parse rules p c a.1 ∙ F.parse_of_accepted rules v p c a.0 fits;
  faults_of_octets = some_of_octets tag F.parse F.faults_of_octets;
  same_length = λ rules v c a. F.same_length rules v c a.0;
  accepts_contents = λ rules v r. (F.accepts_contents rules v r.0, r.1);
  only_readable = λ rules v c a. (F.only_readable rules v c a.0, subst (λ n. 0 < n) (sym (F.same_length rules v c a.0)) a.1);
  accepts_comparable = λ rules v w c d a b. F.accepts_comparable rules v w c d a.0 b.0;
  re_reads_memory = F.re_reads_memory;
}
