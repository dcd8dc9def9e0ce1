-- Names as text (RFC 4514).
use Rattle.std.specs.Prelude.{◌≡◌, ◌⊎◌, ℕ, ◌<◌, ◌≤◌, List, [], ◌∷◌, ◌++◌, length}
use Rattle.der_elem.specs.Decoding.{AllRead}
use Rattle.der_elem.specs.declared.form.Form as form
use Rattle.der_lists.specs.ListRef as list
use Rattle.der_lists.specs.SetRef as set
use Rattle.der_opaque.specs.AnyRef.{contents_of, tag_of}
use Rattle.der_opaque.specs.ObjectIdentifierRef as identifier
use Rattle.der_pkix.specs.Name.AttributeTypeAndValue as attribute
use Rattle.der_pkix.specs.Name.RdnSequence as name
use Rattle.der_pkix.specs.Name.RelativeDistinguishedName as part
use Rattle.der_pkix.specs.declared.name.attribute_type_and_value.AttributeTypeAndValue.{AttributeTypeAndValue}
use Rattle.der_pkix.specs.declared.name.rdn_sequence.RdnSequence.{RdnSequence}
use Rattle.der_pkix.specs.declared.name.relative_distinguished_name.RelativeDistinguishedName.{RelativeDistinguishedName}
use Rattle.der_verify.specs.Shown.{AreShown}
use Rattle.der_c.specs.Answers.{NoFault, NotGiven, fault_of_call}
use Rattle.der_c.specs.AttributeText.{IsAttributeText}
use Rattle.der_c.specs.Joined.{joined, last_first}
use Rattle.der_c.specs.RoomText.{counted, over}
use Rattle.der_c.specs.declared.fault.Fault.{Fault}

-- the text of an attribute (2.3)
abbrev pub ShowsAttribute : AttributeTypeAndValue → List ℕ → Type 0
ShowsAttribute v text = IsAttributeText (identifier.octets_of (attribute.type_ v)) (tag_of (attribute.value v)) (contents_of (attribute.value v)) text

-- "the output consists of the string encodings of each AttributeTypeAndValue (according to Section 2.3), in any order. Where there is a multi-valued RDN, the outputs from adjoining AttributeTypeAndValues are separated by a plus sign" (2.2); here in the order of the octets
abbrev pub IsPartText : form.Ghosts AttributeTypeAndValue → RelativeDistinguishedName → List ℕ → Type 0
IsPartText A p text = (texts : List (List ℕ)) × AreShown A ShowsAttribute (set.octets_of (part.items_of p)) texts × (text ≡ joined 43 texts)

-- "the output consists of the string encodings of each RelativeDistinguishedName in the RDNSequence (according to Section 2.2), starting with the last element of the sequence and moving backwards toward the first. The encodings of adjoining RelativeDistinguishedNames are separated by a comma" (2.1)
abbrev pub IsNameText : form.Ghosts RelativeDistinguishedName → form.Ghosts AttributeTypeAndValue → RdnSequence → List ℕ → Type 0
IsNameText P A n text = (texts : List (List ℕ)) × AreShown P (IsPartText A) (list.octets_of (name.items_of n)) texts × (text ≡ last_first texts)

-- 0: the text and a zero octet are at the front of the buffer, the octets after them are unchanged, and the count is the length of the text
pub record NameFilled (text old new : List ℕ) (count : ℕ) (old_fault fault : Fault) (answer : ℕ) : Type 0 where
  pub fits : length text < length old
  pub octets_are : new ≡ over (text ++ (0 ∷ [])) old
  pub count_is : count ≡ length text
  pub no_fault : NoFault old_fault fault answer

-- 103: the buffer is too short for the text and a zero octet, and is unchanged; the count is the length of the text, or the greatest number of 64 bits if that is greater
pub record NameTooLong (text old new : List ℕ) (count : ℕ) (fault : Fault) (answer : ℕ) : Type 0 where
  pub long : length old ≤ length text
  pub unchanged : new ≡ old
  pub count_is : count ≡ counted (length text)
  pub number : answer ≡ 103
  pub written : fault ≡ fault_of_call 103

abbrev pub WritesName : List ℕ → List ℕ → List ℕ → ℕ → Fault → Fault → ℕ → Type 0
WritesName text old new count old_fault fault answer = NameFilled text old new count old_fault fault answer ⊎ NameTooLong text old new count fault answer

-- all octets are read as a Name, and its text is written; or the buffer is too short for it
pub record NameGiven (P : form.Ghosts RelativeDistinguishedName) (A : form.Ghosts AttributeTypeAndValue) (N : form.Ghosts RdnSequence) (octets old new : List ℕ) (count : ℕ) (old_fault fault : Fault) (answer : ℕ) : Type 0 where
  pub value : RdnSequence
  pub read : AllRead N octets value
  pub written : (text : List ℕ) → IsNameText P A value text → WritesName text old new count old_fault fault answer

-- or the octets are refused, with the reason, and the buffer and the count are unchanged
abbrev pub AnswersNameText : form.Ghosts RelativeDistinguishedName → form.Ghosts AttributeTypeAndValue → form.Ghosts RdnSequence → List ℕ → List ℕ → List ℕ → ℕ → ℕ → Fault → Fault → ℕ → Type 0
AnswersNameText P A N octets old new old_count count old_fault fault answer =
    NameGiven P A N octets old new count old_fault fault answer
    ⊎ NotGiven {S = List ℕ × ℕ} N octets (old, old_count) (new, count) fault answer
