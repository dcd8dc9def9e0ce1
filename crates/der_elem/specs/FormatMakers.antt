-- The meaning of contents octets, for groups of similar types.
use Rattle.std.specs.Prelude.{◌≡◌, ℕ, List, true, false, Ok, refl}
use Rattle.der_tlv.specs.declared.encoding_rules.EncodingRules.{EncodingRules}
use Rattle.der_tlv.specs.declared.tag.Tag.{Tag}
use Rattle.der_tlv.specs.OctetFaults.{IsOfOctets}
use Rattle.der_elem.specs.Parsing.{ContentsParse}
use Rattle.der_elem.specs.OwnContents.{accepts_own, accepts_within}
use Rattle.der_elem.specs.OwnContentsLaws.{parse_of_own, same_length_own, accepts_own_contents, parse_of_within, same_length_within, accepts_contents_within, only_within}
use Rattle.der_elem.specs.ContentsFormat.{ContentsFormat}

-- each value within a range is read from its own contents octets and from no others, and takes no memory
abbrev pub format_of_contents_within : {T : Type 0} (contents : T → List ℕ) (Within : T → Type 0) (parse : ContentsParse) → ((rules : EncodingRules) (v : T) (p : ℕ) → Within v → parse rules p (contents v) ≡ Ok (contents v)) → ((rules : EncodingRules) (p : ℕ) (c : List ℕ) → IsOfOctets (parse rules p c)) → ContentsFormat T
format_of_contents_within contents Within parse own faults = record {
  contents = contents;
  comparable = λ v w. Unit {0};
  re_reads = λ v. false;
  accepts = accepts_within contents Within;
  parse = parse;
  readable = Within;
  has_tag = λ v t. Unit {0};
  TAKES_MEMORY = false;
  FAULTS_FIRST = true;
  parse_of_accepted = parse_of_within contents Within parse own;
  faults_of_octets = faults;
  same_length = same_length_within contents Within;
  accepts_contents = accepts_contents_within contents Within;
  only_readable = only_within contents Within;
  accepts_comparable = λ rules v w c d a b. tt;
  re_reads_memory = λ v e. e;
}

-- each value is read from its own contents octets and from no others
abbrev pub format_of_contents : {T : Type 0} (contents : T → List ℕ) (parse : ContentsParse) → ((rules : EncodingRules) (v : T) (p : ℕ) → parse rules p (contents v) ≡ Ok (contents v)) → ((rules : EncodingRules) (p : ℕ) (c : List ℕ) → IsOfOctets (parse rules p c)) → ContentsFormat T
format_of_contents contents parse own faults = format_of_contents_within contents (λ v. Unit {0}) parse (λ rules v p r. own rules v p) faults

-- each value is read from its own contents octets and from no others, after a tag that the value may have
abbrev pub format_with_tags : {T : Type 0} (contents : T → List ℕ) (has_tag : T → Tag → Type 0) (parse : ContentsParse) → ((rules : EncodingRules) (v : T) (p : ℕ) → parse rules p (contents v) ≡ Ok (contents v)) → ((rules : EncodingRules) (p : ℕ) (c : List ℕ) → IsOfOctets (parse rules p c)) → ContentsFormat T
format_with_tags contents has_tag parse own faults = record {
  contents = contents;
  comparable = λ v w. Unit {0};
  re_reads = λ v. false;
  accepts = accepts_own contents;
  parse = parse;
  readable = λ v. Unit {0};
  has_tag = has_tag;
  TAKES_MEMORY = false;
  FAULTS_FIRST = true;
  parse_of_accepted = parse_of_own contents parse own;
  faults_of_octets = faults;
  same_length = same_length_own contents;
  accepts_contents = accepts_own_contents contents;
  only_readable = λ rules v c a. tt;
  accepts_comparable = λ rules v w c d a b. tt;
  re_reads_memory = λ v e. e;
}

-- the format with the same octets, for a type that takes memory to read
abbrev pub allocating : {T : Type 0} → ContentsFormat T → ContentsFormat T
allocating F = record F { TAKES_MEMORY = true; re_reads_memory = λ v e. refl }

-- each value is read from its own contents octets and from no others, and takes memory
abbrev pub allocating_format : {T : Type 0} (contents : T → List ℕ) (parse : ContentsParse) → ((rules : EncodingRules) (v : T) (p : ℕ) → parse rules p (contents v) ≡ Ok (contents v)) → ((rules : EncodingRules) (p : ℕ) (c : List ℕ) → IsOfOctets (parse rules p c)) → ContentsFormat T
allocating_format contents parse own faults = allocating (format_with_tags contents (λ v t. Unit {0}) parse own faults)

-- the octets of the value inside, after any tag
abbrev pub mapped_format : {T U : Type 0} → (T → U) → ContentsFormat U → ContentsFormat T
mapped_format held F = record {
  contents = λ v. F.contents (held v);
  comparable = λ v w. F.comparable (held v) (held w);
  re_reads = λ v. F.re_reads (held v);
  accepts = λ rules v. F.accepts rules (held v);
  parse = F.parse;
  readable = λ v. F.readable (held v);
  has_tag = λ v t. Unit {0};
  TAKES_MEMORY = F.TAKES_MEMORY;
  FAULTS_FIRST = F.FAULTS_FIRST;
  parse_of_accepted = λ rules v. F.parse_of_accepted rules (held v);
  faults_of_octets = F.faults_of_octets;
  same_length = λ rules v. F.same_length rules (held v);
  accepts_contents = λ rules v. F.accepts_contents rules (held v);
  only_readable = λ rules v. F.only_readable rules (held v);
  accepts_comparable = λ rules v w. F.accepts_comparable rules (held v) (held w);
  re_reads_memory = λ v. F.re_reads_memory (held v);
}
