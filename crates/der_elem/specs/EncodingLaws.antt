-- Laws of all encodings, stated for the functions that promise them.
use Rattle.std.specs.Prelude.{◌≡◌, Bool, IsTrue, ℕ, ℤ, ◌<◌, ◌≤◌, ◌^◌, List, [], ◌++◌, length, flat_map, Ok}
use Rattle.std.specs.Ordering.{on}
use Rattle.std.specs.Cmp.Lexicographic.{slice_cmp}
use Rattle.der_tlv.specs.declared.tag.Tag.{Tag}
use Rattle.der_tlv.specs.declared.encoding_rules.EncodingRules.{EncodingRules}
use Rattle.der_tlv.specs.declared.encoding_rules.EncodingRules.TheVariants.{Der}
use Rattle.der_tlv.specs.Octets.{lex}
use Rattle.der_tlv.specs.HeaderOctets.{tlv}
use Rattle.der_elem.specs.declared.form.Form as form
use Rattle.der_tlv.specs.OctetFaults.{IsOfOctets}
use Rattle.der_elem.specs.Parsing.{Parse}
use Rattle.der_elem.specs.Decoding.{parse_all}
use Rattle.der_elem.specs.Integer.{AreOctets, integer_contents, twos_complement}
use Rattle.der_elem.specs.PaddedOrder.{padded_cmp}

-- no encoding is a proper prefix of another: two encodings at the start of the same octets have the same tag, contents and tail
abbrev pub NoneBeginsAnother : Type 0
NoneBeginsAnother = (t u : Tag) (c d x y : List ℕ) → tlv t c ++ x ≡ tlv u d ++ y → (t ≡ u) × (c ≡ d) × (x ≡ y)

-- no octets that are read as a value of one type are a proper prefix of octets that are read as a value of that or another type
abbrev pub NoneReadBeginsAnother : {T U : Type 0} → form.Ghosts T → form.Ghosts U → Type 0
NoneReadBeginsAnother {T} {U} F G =
    (rules others : EncodingRules) (v : T) (w : U) (octets more : List ℕ) → F.accepts rules v octets → G.accepts others w (octets ++ more) → more ≡ []

-- padding the shorter of two encodings with zeros does not change their order
abbrev pub PaddingIsLexicographic : Type 0
PaddingIsLexicographic = (t u : Tag) (c d : List ℕ) → padded_cmp (tlv t c) (tlv u d) ≡ lex (tlv t c) (tlv u d)

-- the order of two lists of joined encodings is decided by the first pair that differs, else by the number of items
abbrev pub FirstPairDecides : {T : Type 0} → (T → List ℕ) → Type 0
FirstPairDecides {T} encoding = (vs ws : List T) → lex (flat_map encoding vs) (flat_map encoding ws) ≡ slice_cmp (on encoding lex) vs ws

-- the result of reading octets is a value, or an error in them: not lack of memory (1), and not an earlier refusal (17)
abbrev pub FaultsAreOfOctets : Parse → Type 0
FaultsAreOfOctets parse = (rules : EncodingRules) (p : ℕ) (octets : List ℕ) → IsOfOctets (parse rules p octets)

-- a copy is equal to its source
abbrev pub CopiesAreEqual : {T : Type 0} → (T → T → Type 0) → (T → T → Bool) → Type 0
CopiesAreEqual {T} is_copy eq = (v w : T) → is_copy v w → IsTrue (eq v w)

-- values that are read from the same octets have one encoding
abbrev pub OneValueIsRead : {T : Type 0} → form.Ghosts T → Type 0
OneValueIsRead {T} F =
    (v w : T) (octets : List ℕ) → F.accepts Der v octets → F.accepts Der w octets → length octets < 2 ^ 32 → F.encoding v ≡ F.encoding w

-- the encoding of a value that was read is parsed as itself, so canonical octets stay as they are
abbrev pub EncodingsReadBack : {T : Type 0} → form.Ghosts T → Type 0
EncodingsReadBack {T} F =
    (v : T) (octets : List ℕ) → F.accepts Der v octets → length octets < 2 ^ 32 → parse_all F.parse (F.encoding v) ≡ Ok (F.encoding v)

-- the encoding of a readable value that fits a length is read as that value, and only as values that are equal to it
pub record OwnEncodingIsRead {T : Type 0} (F : form.Ghosts T) (eq : T → T → Bool) (v : T) : Type 0 where
  pub accepted : F.accepts Der v (F.encoding v)
  pub parsed : parse_all F.parse (F.encoding v) ≡ Ok (F.encoding v)
  pub equal : (w : T) → F.accepts Der w (F.encoding v) → IsTrue (eq w v)

-- the contents octets of an integer are its two's complement, and no fewer octets are (X.690 8.3.2, 8.3.3)
abbrev pub IntegersAreFewest : Type 0
IntegersAreFewest =
    (z : ℤ) → (twos_complement (integer_contents z) ≡ z) × ((c : List ℕ) → AreOctets c → 0 < length c → twos_complement c ≡ z → length (integer_contents z) ≤ length c)
