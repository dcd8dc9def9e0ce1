-- The grammar of Shapes, in the words of ASN.1.
-- Made by tools/asn1 from shapes.asn1.
use Rattle.std.specs.Prelude.{◌∷◌, [], false, negsuc, pos, true}
use Rattle.der_additions.specs.Asn1.{ADDITIONS}
use Rattle.der_ascii.specs.Characters.{parse_string}
use Rattle.der_bits.specs.BitString.{parse_bit_string}
use Rattle.der_constrained.specs.Alphabets.{characters, either_set, permitted}
use Rattle.der_constrained.specs.Asn1.{ALLOWED, intersection, union}
use Rattle.der_constrained.specs.Components.{size_in_components}
use Rattle.der_constrained.specs.Integers.{range}
use Rattle.der_constrained.specs.Sizes.{size_in_bits, size_in_characters, size_in_octets}
use Rattle.der_elem.specs.Boolean.{boolean_contents, parse_boolean}
use Rattle.der_elem.specs.Integer.{integer_contents, natural_contents}
use Rattle.der_elem.specs.IntegerReading.{parse_signed, parse_unsigned}
use Rattle.der_elem.specs.Null.{parse_null}
use Rattle.der_elem.specs.Utf8String.{parse_utf8}
use Rattle.der_fields.specs.MarkerTags.{marker_tag}
use Rattle.der_lists.specs.Asn1.{SEQUENCE_OF, SET_OF, SET_OF_ANY_ORDER}
use Rattle.der_modules.specs.Asn1.{CHOICE, DEFAULT, EXPLICIT, Grammar, IMPLICIT, NAMED, NOT_EMPTY, OPTIONAL, SEQUENCE, SET, any_of, application, context, end, field, one, private}
use Rattle.der_numbers.specs.AnyLength.{parse_integer, parse_natural}
use Rattle.der_opaque.specs.AnyForm.{parse_any}
use Rattle.der_opaque.specs.ObjectIdentifierOctets.{parse_identifier}
use Rattle.der_opaque.specs.Opaque.{parse_octets}
use Rattle.der_shapes.specs.Shapes.Color.{all_of_color, number_of_color}
use Rattle.der_simple.specs.Arcs.{parse_arcs}
use Rattle.der_simple.specs.Characters.{parse_simple_string}
use Rattle.der_simple.specs.FractionalTimes.{parse_fractional_time}
use Rattle.der_time.specs.TimeReading.{parse_generalized}
use Rattle.der_tlv.specs.HeaderOctets.{tlv}
use Rattle.der_tlv.specs.TagParts.{is_constructed}
use Rattle.der_tlv.specs.declared.tag.Tag.TheVariants as tags

abbrev pub ANY : Grammar
ANY = any_of (λ t. true) parse_any

abbrev pub BIT_STRING : Grammar
BIT_STRING = one tags.BitString parse_bit_string

abbrev pub BOOLEAN : Grammar
BOOLEAN = one tags.Boolean parse_boolean

abbrev pub FRACTIONAL_TIME : Grammar
FRACTIONAL_TIME = one tags.GeneralizedTime parse_fractional_time

abbrev pub GENERALIZED_TIME : Grammar
GENERALIZED_TIME = one tags.GeneralizedTime parse_generalized

abbrev pub IA5_STRING : Grammar
IA5_STRING = one tags.Ia5String (parse_string 22)

abbrev pub INTEGER : Grammar
INTEGER = one tags.Integer parse_integer

abbrev pub INTEGER_i16 : Grammar
INTEGER_i16 = one tags.Integer (parse_signed 2)

abbrev pub INTEGER_i8 : Grammar
INTEGER_i8 = one tags.Integer (parse_signed 1)

abbrev pub INTEGER_u16 : Grammar
INTEGER_u16 = one tags.Integer (parse_unsigned 2)

abbrev pub INTEGER_u8 : Grammar
INTEGER_u8 = one tags.Integer (parse_unsigned 1)

abbrev pub NATURAL : Grammar
NATURAL = one tags.Integer parse_natural

abbrev pub NULL : Grammar
NULL = one tags.Null parse_null

abbrev pub NUMERIC_STRING : Grammar
NUMERIC_STRING = one tags.NumericString (parse_simple_string 18)

abbrev pub OBJECT_IDENTIFIER_39 : Grammar
OBJECT_IDENTIFIER_39 = one tags.ObjectIdentifier (parse_identifier 39)

abbrev pub OCTET_STRING : Grammar
OCTET_STRING = one tags.OctetString parse_octets

abbrev pub PRINTABLE_STRING : Grammar
PRINTABLE_STRING = one tags.PrintableString (parse_string 19)

abbrev pub RELATIVE_OID : Grammar
RELATIVE_OID = one tags.RelativeOid parse_arcs

abbrev pub UNREAD_SEQUENCE : Grammar
UNREAD_SEQUENCE = one tags.Sequence parse_octets

abbrev pub UTF8_STRING : Grammar
UTF8_STRING = one tags.Utf8String parse_utf8

abbrev pub VISIBLE_STRING : Grammar
VISIBLE_STRING = one tags.VisibleString (parse_simple_string 26)

-- Pair ::= SEQUENCE {
--     type   OBJECT IDENTIFIER,
--     value  ANY }
abbrev pub pair : Grammar
pair =
    SEQUENCE
    (field OBJECT_IDENTIFIER_39
    (field ANY
    end))

-- Status ::= CHOICE {
--     good     [0] NULL,
--     revoked  [1] GeneralizedTime,
--     unknown  [2] NULL }
abbrev pub status : Grammar
status =
    CHOICE
    (CHOICE
    (IMPLICIT context 0 NULL)
    (IMPLICIT context 1 GENERALIZED_TIME))
    (IMPLICIT context 2 NULL)

-- General ::= CHOICE {
--     address  [11] IA5String,
--     number   [17] OCTET STRING,
--     status   Status }
abbrev pub general : Grammar
general =
    CHOICE
    (CHOICE
    (IMPLICIT context 11 IA5_STRING)
    (IMPLICIT context 17 OCTET_STRING))
    status

-- Subtree ::= [APPLICATION 3] SEQUENCE {
--     base      [5] EXPLICIT General,
--     minimum   [0] INTEGER (0..255) DEFAULT 0,
--     maximum   [1] INTEGER (0..MAX) OPTIONAL,
--     only      [PRIVATE 2] BOOLEAN DEFAULT FALSE,
--     statuses  [3] SEQUENCE OF Status OPTIONAL }
abbrev pub subtree : Grammar
subtree =
    IMPLICIT application 3 (SEQUENCE
    (field (EXPLICIT context 5 general)
    (DEFAULT (tlv (marker_tag context (is_constructed tags.Integer) 0) (natural_contents 0)) (IMPLICIT context 0 INTEGER_u8)
    (OPTIONAL (IMPLICIT context 1 NATURAL)
    (DEFAULT (tlv (marker_tag private (is_constructed tags.Boolean) 2) (boolean_contents false)) (IMPLICIT private 2 BOOLEAN)
    (OPTIONAL (IMPLICIT context 3 (SEQUENCE_OF status))
    end))))))

-- Mixed ::= SET {
--     third   [1] INTEGER,
--     first   BOOLEAN,
--     second  INTEGER (-128..127) }
abbrev pub mixed : Grammar
mixed =
    SET
    (field BOOLEAN
    (field INTEGER_i8
    (field (IMPLICIT context 1 INTEGER)
    end)))

-- Numbers ::= SEQUENCE OF INTEGER (0..255)
abbrev pub numbers : Grammar
numbers =
    SEQUENCE_OF INTEGER_u8

-- Ordered ::= SET OF Pair
abbrev pub ordered : Grammar
ordered =
    SET_OF pair

-- Unordered ::= SET SIZE (1..MAX) OF Status
abbrev pub unordered : Grammar
unordered =
    NOT_EMPTY (SET_OF_ANY_ORDER status)

-- Lists ::= SEQUENCE {
--     numbers    Numbers,
--     some       SEQUENCE SIZE (1..MAX) OF Numbers,
--     ordered    [0] EXPLICIT Ordered OPTIONAL,
--     unordered  [1] Unordered OPTIONAL,
--     bits       SET OF BIT STRING }
abbrev pub lists : Grammar
lists =
    SEQUENCE
    (field numbers
    (field (NOT_EMPTY (SEQUENCE_OF numbers))
    (OPTIONAL (EXPLICIT context 0 ordered)
    (OPTIONAL (IMPLICIT context 1 unordered)
    (field (SET_OF BIT_STRING)
    end)))))

-- Extensible ::= SEQUENCE {
--     a  INTEGER (0..255),
--     b  [0] BOOLEAN OPTIONAL,
--     ...
-- }
abbrev pub extensible : Grammar
extensible =
    SEQUENCE
    (field INTEGER_u8
    (OPTIONAL (IMPLICIT context 0 BOOLEAN)
    ADDITIONS))

-- Titled ::= SEQUENCE {
--     title  OCTET STRING,
--     ...,
--     note   [0] UTF8String OPTIONAL }
abbrev pub titled : Grammar
titled =
    SEQUENCE
    (field OCTET_STRING
    (OPTIONAL (IMPLICIT context 0 UTF8_STRING)
    ADDITIONS))

-- Nothing ::= SEQUENCE { }
abbrev pub nothing : Grammar
nothing =
    SEQUENCE
    end

-- Empty ::= SET { }
abbrev pub empty : Grammar
empty =
    SET
    end

-- a type within another: MarksFourth
abbrev pub marks_fourth : Grammar
marks_fourth =
    SET
    end

-- Marks ::= SEQUENCE {
--     first   Nothing,
--     second  [0] Nothing OPTIONAL,
--     third   [1] EXPLICIT Empty OPTIONAL,
--     fourth  SET { ... } }
abbrev pub marks : Grammar
marks =
    SEQUENCE
    (field nothing
    (OPTIONAL (IMPLICIT context 0 nothing)
    (OPTIONAL (EXPLICIT context 1 empty)
    (field marks_fourth
    end))))

-- Label ::= CHOICE {
--     text    OCTET STRING,
--     number  [0] INTEGER }
abbrev pub label : Grammar
label =
    CHOICE
    OCTET_STRING
    (IMPLICIT context 0 INTEGER)

-- Labels ::= SEQUENCE {
--     label    Label,
--     title    OCTET STRING OPTIONAL,
--     other    [1] EXPLICIT OCTET STRING OPTIONAL,
--     visible  BOOLEAN DEFAULT FALSE }
abbrev pub labels : Grammar
labels =
    SEQUENCE
    (field label
    (OPTIONAL OCTET_STRING
    (OPTIONAL (EXPLICIT context 1 OCTET_STRING)
    (DEFAULT (tlv tags.Boolean (boolean_contents false)) BOOLEAN
    end))))

-- Notes ::= SEQUENCE {
--     digits  NumericString,
--     text    [0] VisibleString OPTIONAL,
--     arcs    [1] EXPLICIT RELATIVE-OID OPTIONAL,
--     lines   SEQUENCE OF VisibleString }
abbrev pub notes : Grammar
notes =
    SEQUENCE
    (field NUMERIC_STRING
    (OPTIONAL (IMPLICIT context 0 VISIBLE_STRING)
    (OPTIONAL (EXPLICIT context 1 RELATIVE_OID)
    (field (SEQUENCE_OF VISIBLE_STRING)
    end))))

-- Note ::= CHOICE {
--     digits  NumericString,
--     text    VisibleString,
--     arcs    RELATIVE-OID }
abbrev pub note : Grammar
note =
    CHOICE
    (CHOICE
    NUMERIC_STRING
    VISIBLE_STRING)
    RELATIVE_OID

-- Small ::= INTEGER (-5..10)
abbrev pub small : Grammar
small =
    ALLOWED (range (negsuc 4) (pos 10)) INTEGER_i8

-- Code ::= PrintableString (SIZE (2..3)) (FROM ("A".."Z" | "0".."9"))
abbrev pub code : Grammar
code =
    ALLOWED (intersection (size_in_octets 2 3) (permitted (either_set (characters 48 57) (characters 65 90)))) PRINTABLE_STRING

-- Bounded ::= SEQUENCE {
--     small   Small,
--     few     [0] INTEGER (1 | 3..5) OPTIONAL,
--     code    Code,
--     octets  [1] EXPLICIT OCTET STRING (SIZE (2 | 4)) OPTIONAL,
--     bits    BIT STRING (SIZE (3..9)),
--     text    UTF8String (SIZE (1..4)),
--     list    SEQUENCE OF INTEGER (0..9) }
abbrev pub bounded : Grammar
bounded =
    SEQUENCE
    (field small
    (OPTIONAL (IMPLICIT context 0 (ALLOWED (union (range (pos 1) (pos 1)) (range (pos 3) (pos 5))) INTEGER_u8))
    (field code
    (OPTIONAL (EXPLICIT context 1 (ALLOWED (union (size_in_octets 2 2) (size_in_octets 4 4)) OCTET_STRING))
    (field (ALLOWED (size_in_bits 3 9) BIT_STRING)
    (field (ALLOWED (size_in_characters 1 4) UTF8_STRING)
    (field (SEQUENCE_OF (ALLOWED (range (pos 0) (pos 9)) INTEGER_u8))
    end)))))))

-- Limited ::= CHOICE {
--     number  INTEGER (0..99 EXCEPT 50),
--     text    [0] VisibleString (FROM ("a".."f") ^ SIZE (1..2)) }
abbrev pub limited : Grammar
limited =
    CHOICE
    (ALLOWED (union (range (pos 0) (pos 49)) (range (pos 51) (pos 99))) INTEGER_u8)
    (IMPLICIT context 0 (ALLOWED (intersection (permitted (characters 97 102)) (size_in_octets 1 2)) VISIBLE_STRING))

-- Few ::= SEQUENCE SIZE (1..3) OF INTEGER (0..9)
abbrev pub few : Grammar
few =
    ALLOWED (size_in_components 1 3) (SEQUENCE_OF (ALLOWED (range (pos 0) (pos 9)) INTEGER_u8))

-- Sizes ::= SEQUENCE {
--     few        Few,
--     pair       [0] SEQUENCE SIZE (2) OF ANY OPTIONAL,
--     ordered    SET SIZE (0..2) OF BOOLEAN,
--     unordered  [1] EXPLICIT SET SIZE (2 | 4..MAX) OF Status OPTIONAL,
--     labels     SEQUENCE SIZE (2..MAX) OF Label OPTIONAL }
abbrev pub sizes : Grammar
sizes =
    SEQUENCE
    (field few
    (OPTIONAL (IMPLICIT context 0 (ALLOWED (size_in_components 2 2) (SEQUENCE_OF ANY)))
    (field (ALLOWED (size_in_components 0 2) (SET_OF BOOLEAN))
    (OPTIONAL (EXPLICIT context 1 (ALLOWED (union (size_in_components 2 2) (size_in_components 4 4294967295)) (SET_OF_ANY_ORDER status)))
    (OPTIONAL (ALLOWED (size_in_components 2 4294967295) (SEQUENCE_OF label))
    end)))))

-- Color ::= ENUMERATED { red(0), green(1), blue(2) }
abbrev pub color : Grammar
color =
    NAMED number_of_color all_of_color tags.Enumerated

-- Level ::= INTEGER { low(-1), high(300) }
abbrev pub level : Grammar
level =
    INTEGER_i16

-- Counted ::= SEQUENCE {
--     visible  BOOLEAN DEFAULT TRUE,
--     port     INTEGER (0..65535) DEFAULT 8080,
--     offset   [0] INTEGER (-128..127) DEFAULT -1,
--     level    [1] EXPLICIT Level DEFAULT high,
--     balance  [2] INTEGER DEFAULT -40000,
--     serial   [3] INTEGER (0..MAX) DEFAULT 200,
--     nothing  NULL DEFAULT NULL,
--     color    Color DEFAULT green }
abbrev pub counted : Grammar
counted =
    SEQUENCE
    (DEFAULT (tlv tags.Boolean (boolean_contents true)) BOOLEAN
    (DEFAULT (tlv tags.Integer (natural_contents 8080)) INTEGER_u16
    (DEFAULT (tlv (marker_tag context (is_constructed tags.Integer) 0) (integer_contents (negsuc 0))) (IMPLICIT context 0 INTEGER_i8)
    (DEFAULT (tlv (marker_tag context true 1) (tlv tags.Integer (integer_contents (pos 300)))) (EXPLICIT context 1 level)
    (DEFAULT (tlv (marker_tag context (is_constructed tags.Integer) 2) (integer_contents (negsuc 39999))) (IMPLICIT context 2 INTEGER)
    (DEFAULT (tlv (marker_tag context (is_constructed tags.Integer) 3) (natural_contents 200)) (IMPLICIT context 3 NATURAL)
    (DEFAULT (tlv tags.Null []) NULL
    (DEFAULT (tlv tags.Enumerated (integer_contents (pos 1))) color
    end))))))))

-- Described ::= SEQUENCE {
--     name    UTF8String DEFAULT "none",
--     place   PrintableString DEFAULT "",
--     mail    [0] IA5String DEFAULT "a@b",
--     key     OCTET STRING DEFAULT '00FF'H,
--     bits    BIT STRING DEFAULT '101'B,
--     type    OBJECT IDENTIFIER DEFAULT { iso(1) member-body(2) us(840) },
--     color   [4] Color DEFAULT blue }
abbrev pub described : Grammar
described =
    SEQUENCE
    (DEFAULT (tlv tags.Utf8String (110 ∷ 111 ∷ 110 ∷ 101 ∷ [])) UTF8_STRING
    (DEFAULT (tlv tags.PrintableString []) PRINTABLE_STRING
    (DEFAULT (tlv (marker_tag context (is_constructed tags.Ia5String) 0) (97 ∷ 64 ∷ 98 ∷ [])) (IMPLICIT context 0 IA5_STRING)
    (DEFAULT (tlv tags.OctetString (0 ∷ 255 ∷ [])) OCTET_STRING
    (DEFAULT (tlv tags.BitString (5 ∷ 160 ∷ [])) BIT_STRING
    (DEFAULT (tlv tags.ObjectIdentifier (42 ∷ 134 ∷ 72 ∷ [])) OBJECT_IDENTIFIER_39
    (DEFAULT (tlv (marker_tag context (is_constructed tags.Enumerated) 4) (integer_contents (pos 2))) (IMPLICIT context 4 color)
    end)))))))

-- Filter ::= CHOICE {
--     and      [0] SET OF Filter,
--     not      [1] Filter,
--     present  [2] OCTET STRING }
abbrev pub filter : Grammar
filter =
    CHOICE
    (CHOICE
    (IMPLICIT context 0 UNREAD_SEQUENCE)
    (IMPLICIT context 1 UNREAD_SEQUENCE))
    (IMPLICIT context 2 OCTET_STRING)

-- Node ::= SEQUENCE {
--     value     INTEGER (0..255),
--     left      [0] Node OPTIONAL,
--     right     [1] EXPLICIT Node OPTIONAL,
--     children  SEQUENCE OF Node OPTIONAL }
abbrev pub node : Grammar
node =
    SEQUENCE
    (field INTEGER_u8
    (OPTIONAL (IMPLICIT context 0 UNREAD_SEQUENCE)
    (OPTIONAL (IMPLICIT context 1 UNREAD_SEQUENCE)
    (OPTIONAL UNREAD_SEQUENCE
    end))))

-- Link ::= SEQUENCE {
--     name   UTF8String,
--     after  [APPLICATION 4] Chain OPTIONAL }
abbrev pub link : Grammar
link =
    SEQUENCE
    (field UTF8_STRING
    (OPTIONAL (IMPLICIT application 4 UNREAD_SEQUENCE)
    end))

-- Chain ::= SEQUENCE OF Link
abbrev pub chain : Grammar
chain =
    SEQUENCE_OF link

-- Session ::= SEQUENCE {
--     begin   GeneralizedTime,
--     end     [0] GeneralizedTime OPTIONAL,
--     day     [1] GeneralizedTime OPTIONAL,
--     pauses  SEQUENCE OF GeneralizedTime
-- }
abbrev pub session : Grammar
session =
    SEQUENCE
    (field FRACTIONAL_TIME
    (OPTIONAL (IMPLICIT context 0 FRACTIONAL_TIME)
    (OPTIONAL (IMPLICIT context 1 GENERALIZED_TIME)
    (field (SEQUENCE_OF FRACTIONAL_TIME)
    end))))
