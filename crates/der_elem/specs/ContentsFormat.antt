-- The meaning of the contents octets of a type's values (X.690 8.1.4).
use Rattle.std.specs.Prelude.{◌≡◌, ℕ, List, length, Bool, true, Ok}
use Rattle.der_tlv.specs.declared.encoding_rules.EncodingRules.{EncodingRules}
use Rattle.der_tlv.specs.declared.tag.Tag.{Tag}
use Rattle.der_tlv.specs.OctetFaults.{IsOfOctets}
use Rattle.der_elem.specs.Parsing.{ContentsParse}
use Rattle.der_elem.specs.Accepting.{Fits}

pub record ContentsFormat (V : Type 0) : Type 1 where
  -- the contents octets of a value
  pub contents : V → List ℕ
  -- whether the two values can be compared
  pub comparable : V → V → Type 0
  -- whether writing or comparing the value reads its items again, which takes memory
  pub re_reads : V → Bool
  -- the grammar under rules: the value is read from exactly these contents octets
  pub accepts : EncodingRules → V → List ℕ → Type 0
  -- the result of parsing contents octets
  pub parse : ContentsParse
  -- whether reading can give the value
  pub readable : V → Type 0
  -- whether the value may follow a header with this tag
  pub has_tag : V → Tag → Type 0
  -- whether reading the contents octets takes memory
  pub TAKES_MEMORY : Bool
  -- whether reading finds every error in the contents octets before it takes memory
  pub FAULTS_FIRST : Bool
  pub parse_of_accepted : (rules : EncodingRules) (v : V) (p : ℕ) (c : List ℕ) → accepts rules v c → Fits c → parse rules p c ≡ Ok (contents v)
  pub faults_of_octets : (rules : EncodingRules) (p : ℕ) (c : List ℕ) → IsOfOctets (parse rules p c)
  pub same_length : (rules : EncodingRules) (v : V) (c : List ℕ) → accepts rules v c → length (contents v) ≡ length c
  pub accepts_contents : (rules : EncodingRules) (v : V) → readable v → accepts rules v (contents v)
  pub only_readable : (rules : EncodingRules) (v : V) (c : List ℕ) → accepts rules v c → readable v
  pub accepts_comparable : (rules : EncodingRules) (v w : V) (c d : List ℕ) → accepts rules v c → accepts rules w d → comparable v w
  pub re_reads_memory : (v : V) → re_reads v ≡ true → TAKES_MEMORY ≡ true
