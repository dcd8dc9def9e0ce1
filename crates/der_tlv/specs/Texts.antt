-- The texts that `{}` writes for tags and errors.
use Rattle.std.specs.Prelude.{ℕ, Bool, true, false, List, ◌++◌, codes, decimal, Option, Some, None}
use Rattle.std.specs.Fmt.{digits}
use Rattle.der_tlv.specs.declared.error.Error.{Error}
use Rattle.der_tlv.specs.declared.error.ErrorKind.{ErrorKind}
use Rattle.der_tlv.specs.declared.error.ErrorKind.TheVariants as kind
use Rattle.der_tlv.specs.declared.tag.Tag.{Tag}
use Rattle.der_tlv.specs.declared.tag.Tag.TheVariants.{Boolean, Integer, BitString, OctetString, Null, ObjectIdentifier, Real, Enumerated, Utf8String, RelativeOid, Sequence, Set, NumericString, PrintableString, TeletexString, VideotexString, Ia5String, UtcTime, GeneralizedTime, VisibleString, GeneralString, BmpString, Application, ContextSpecific, Private}

-- the name of a universal type (X.680 8.4, table 1)
abbrev pub universal_text : Tag → List ℕ
universal_text Boolean = codes "BOOLEAN"
universal_text Integer = codes "INTEGER"
universal_text BitString = codes "BIT STRING"
universal_text OctetString = codes "OCTET STRING"
universal_text Null = codes "NULL"
universal_text ObjectIdentifier = codes "OBJECT IDENTIFIER"
universal_text Real = codes "REAL"
universal_text Enumerated = codes "ENUMERATED"
universal_text Utf8String = codes "UTF8String"
universal_text RelativeOid = codes "RELATIVE-OID"
universal_text Sequence = codes "SEQUENCE"
universal_text Set = codes "SET"
universal_text NumericString = codes "NumericString"
universal_text PrintableString = codes "PrintableString"
universal_text TeletexString = codes "TeletexString"
universal_text VideotexString = codes "VideotexString"
universal_text Ia5String = codes "IA5String"
universal_text UtcTime = codes "UTCTime"
universal_text GeneralizedTime = codes "GeneralizedTime"
universal_text VisibleString = codes "VisibleString"
universal_text GeneralString = codes "GeneralString"
universal_text BmpString = codes "BMPString"
universal_text _ = codes ""

abbrev pub form_text : Bool → List ℕ
form_text true = codes "constructed"
form_text false = codes "primitive"

-- a universal type by its name, another tag by its form, its class and its number
abbrev pub tag_text : Tag → List ℕ
tag_text (Application constructed number) = form_text constructed ++ (codes " [APPLICATION " ++ (decimal number.0 ++ codes "]"))
tag_text (ContextSpecific constructed number) = form_text constructed ++ (codes " [" ++ (decimal number.0 ++ codes "]"))
tag_text (Private constructed number) = form_text constructed ++ (codes " [PRIVATE " ++ (decimal number.0 ++ codes "]"))
tag_text t = universal_text t

-- the kinds without fields
abbrev pub fixed_text : ErrorKind → List ℕ
fixed_text kind.Memory = codes "memory ran out"
fixed_text kind.TagNumberInvalid = codes "a tag number that is out of range or not in its shortest form"
fixed_text kind.Overflow = codes "a number of octets that is out of range"
fixed_text kind.Overlength = codes "a length that is too great or not in its shortest form"
fixed_text kind.SetOrdering = codes "items of a set that are not in order"
fixed_text kind.Utf8 = codes "octets that are no UTF-8"
fixed_text kind.DateTime = codes "no date or time"
fixed_text kind.OidMalformed = codes "no object identifier"
fixed_text kind.IndefiniteLength = codes "an indefinite length"
fixed_text kind.Failed = codes "refused before"
fixed_text _ = codes ""

abbrev pub kind_text : ErrorKind → List ℕ
kind_text (kind.Incomplete expected_len actual_len) = codes "the octets end too soon: " ++ (decimal expected_len ++ (codes " are needed, and " ++ (decimal actual_len ++ codes " are there")))
kind_text (kind.TrailingData decoded remaining) = codes "octets are left over: " ++ (decimal remaining ++ (codes ", behind " ++ decimal decoded))
kind_text (kind.TagUnexpected (Some expected) actual) = tag_text actual ++ (codes " stands where " ++ (tag_text expected ++ codes " is expected"))
kind_text (kind.TagUnexpected None actual) = tag_text actual ++ codes " may not stand there"
kind_text (kind.TagUnknown byte) = codes "no known tag begins with the octet 0x" ++ digits 16 false byte
kind_text (kind.Length tag) = codes "contents of a length that " ++ (tag_text tag ++ codes " does not have")
kind_text (kind.Noncanonical tag) = tag_text tag ++ codes " in a form that DER forbids"
kind_text (kind.Value tag) = codes "contents that are no value of " ++ tag_text tag
kind_text k = fixed_text k

abbrev pub position_text : Option ℕ → List ℕ
position_text (Some position) = codes ", at position " ++ decimal position
position_text None = codes ""

-- what was refused, and the position if it is known
abbrev pub error_text : Error → List ℕ
error_text e = kind_text e.kind ++ position_text e.position
