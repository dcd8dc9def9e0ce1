-- The class, the form and the number of a tag (X.690 8.1.2, X.680 8.4).
use Rattle.std.specs.Prelude.{ℕ, ◌<◌, ◌^◌, ◌==◌, Bool, true, false, if◌then◌else◌, Option, Some, None}
use Rattle.der_tlv.specs.declared.tag.class.Class.{Class}
use Rattle.der_tlv.specs.declared.tag.class.Class.TheVariants as class
use Rattle.der_tlv.specs.declared.tag.Tag.{Tag}
use Rattle.der_tlv.specs.declared.tag.Tag.TheVariants.{Boolean, Integer, BitString, OctetString, Null, ObjectIdentifier, Real, Enumerated, Utf8String, RelativeOid, Sequence, Set, NumericString, PrintableString, TeletexString, VideotexString, Ia5String, UtcTime, GeneralizedTime, VisibleString, GeneralString, BmpString, Application, ContextSpecific, Private}

-- the class (X.690 8.1.2.2)
abbrev pub class_of : Tag → Class
class_of (Application constructed number) = class.Application
class_of (ContextSpecific constructed number) = class.ContextSpecific
class_of (Private constructed number) = class.Private
class_of _ = class.Universal

-- whether the encoding is constructed, so that its contents are encodings (X.690 8.1.2.5)
abbrev pub is_constructed : Tag → Bool
is_constructed Sequence = true
is_constructed Set = true
is_constructed (Application constructed number) = constructed
is_constructed (ContextSpecific constructed number) = constructed
is_constructed (Private constructed number) = constructed
is_constructed _ = false

-- the number within the class (X.680 8.4, table 1)
abbrev pub number_of : Tag → ℕ
number_of Boolean = 1
number_of Integer = 2
number_of BitString = 3
number_of OctetString = 4
number_of Null = 5
number_of ObjectIdentifier = 6
number_of Real = 9
number_of Enumerated = 10
number_of Utf8String = 12
number_of RelativeOid = 13
number_of Sequence = 16
number_of Set = 17
number_of NumericString = 18
number_of PrintableString = 19
number_of TeletexString = 20
number_of VideotexString = 21
number_of Ia5String = 22
number_of UtcTime = 23
number_of GeneralizedTime = 24
number_of VisibleString = 26
number_of GeneralString = 27
number_of BmpString = 30
number_of (Application constructed number) = number.0
number_of (ContextSpecific constructed number) = number.0
number_of (Private constructed number) = number.0

-- a tag whose number fits 32 bits
abbrev pub IsTag : Tag → Type 0
IsTag t = number_of t < 2 ^ 32

-- the universal tag with this number, if this layer knows it
abbrev pub universal_tag : ℕ → Option Tag
universal_tag n =
    if n == 1 then Some Boolean
    else (if n == 2 then Some Integer
    else (if n == 3 then Some BitString
    else (if n == 4 then Some OctetString
    else (if n == 5 then Some Null
    else (if n == 6 then Some ObjectIdentifier
    else (if n == 9 then Some Real
    else (if n == 10 then Some Enumerated
    else (if n == 12 then Some Utf8String
    else (if n == 13 then Some RelativeOid
    else (if n == 16 then Some Sequence
    else (if n == 17 then Some Set
    else (if n == 18 then Some NumericString
    else (if n == 19 then Some PrintableString
    else (if n == 20 then Some TeletexString
    else (if n == 21 then Some VideotexString
    else (if n == 22 then Some Ia5String
    else (if n == 23 then Some UtcTime
    else (if n == 24 then Some GeneralizedTime
    else (if n == 26 then Some VisibleString
    else (if n == 27 then Some GeneralString
    else (if n == 30 then Some BmpString
    else None)))))))))))))))))))))
