-- The types by their names: the result of octets of each type, and when decoding takes memory.
use Rattle.std.specs.Prelude.{ℕ, true, None, Some, if◌then◌else◌, codes}
use Rattle.std.specs.Str.{bytes_eq}
use Rattle.der_asn1_types.specs.Tag.TheVariants.{Boolean, Integer, Null, OctetString, ObjectIdentifier, Sequence, Set, BitString, Utf8String, GeneralString, BmpString, UtcTime, GeneralizedTime, NumericString, VisibleString, RelativeOid}
use Rattle.der_asn1_types.specs.Identifier.{same_identifier}
use Rattle.der_asn1_types.specs.Items.{parse_items}
use Rattle.der_asn1_types.specs.Arrays.{parse_array}
use Rattle.der_asn1_types.specs.Options.{parse_option}
use Rattle.der_asn1_types.specs.Parsing.{Parse, ContentsParse, parse_tagged}
use Rattle.der_asn1_types.specs.Boolean.{parse_boolean}
use Rattle.der_asn1_types.specs.Null.{parse_null}
use Rattle.der_asn1_types.specs.Utf8String.{parse_utf8}
use Rattle.der_asn1_types.specs.IntegerReading.{parse_signed, parse_unsigned}
use Rattle.der_asn1_types.specs.Opaque.{parse_octets}
use Rattle.der_asn1_types.specs.ObjectIdentifierOctets.{parse_identifier}
use Rattle.der_asn1_types.specs.AnyForm.{parse_any}
use Rattle.der_asn1_types.specs.AnyLength.{parse_integer, parse_natural}
use Rattle.der_asn1_types.specs.Characters.{string_tag, parse_string}
use Rattle.der_asn1_types.specs.BitString.{parse_bit_string}
use Rattle.der_asn1_types.specs.BmpUnits.{parse_bmp}
use Rattle.der_asn1_types.specs.SequencesOf.{parse_sequence_of}
use Rattle.der_asn1_types.specs.KeptFormat.{parse_kept}
use Rattle.der_asn1_types.specs.BorrowedSequences.{parse_all_items}
use Rattle.der_asn1_types.specs.Sets.{parse_set, parse_set_up_to}
use Rattle.der_asn1_types.specs.BorrowedSets.{parse_borrowed}
use Rattle.der_asn1_types.specs.TimeReading.{parse_generalized, parse_utc}
use Rattle.der_asn1_types.specs.TaggedValues.{parse_explicit}
use Rattle.der_asn1_types.specs.FieldLists.{parse_field, parse_end}
use Rattle.der_simple.specs.Arcs.{parse_arcs}
use Rattle.der_simple.specs.Characters.{parse_simple_string}
use Rattle.der_simple.specs.FractionalTimes.{parse_fractional_time}
use Rattle.der_lines.specs.Rows.{Row, Taking, never, at_last, between, parsed, tagged}
use Rattle.der_lines.specs.Tables.{Table, or_else}

-- BOOLEAN and NULL
unfoldable pub plain_types : Table
plain_types name =
    if bytes_eq name (codes "bool") then Some (tagged never Boolean parse_boolean)
    else if bytes_eq name (codes "unit") then Some (tagged never Null parse_null)
    else None

-- INTEGER, within the range of a machine integer
unfoldable pub signed_types : Table
signed_types name =
    if bytes_eq name (codes "i8") then Some (tagged never Integer (parse_signed 1))
    else if bytes_eq name (codes "i16") then Some (tagged never Integer (parse_signed 2))
    else if bytes_eq name (codes "i32") then Some (tagged never Integer (parse_signed 4))
    else if bytes_eq name (codes "i64") then Some (tagged never Integer (parse_signed 8))
    else if bytes_eq name (codes "i128") then Some (tagged never Integer (parse_signed 16))
    else None

unfoldable pub unsigned_types : Table
unsigned_types name =
    if bytes_eq name (codes "u8") then Some (tagged never Integer (parse_unsigned 1))
    else if bytes_eq name (codes "u16") then Some (tagged never Integer (parse_unsigned 2))
    else if bytes_eq name (codes "u32") then Some (tagged never Integer (parse_unsigned 4))
    else if bytes_eq name (codes "u64") then Some (tagged never Integer (parse_unsigned 8))
    else if bytes_eq name (codes "u128") then Some (tagged never Integer (parse_unsigned 16))
    else None

-- values whose contents octets are kept unchanged: NULL, any value, OCTET STRING, and OBJECT
-- IDENTIFIER in at most 39 octets
unfoldable pub opaque_types : Table
opaque_types name =
    if bytes_eq name (codes "null") then Some (tagged never Null parse_null)
    else if bytes_eq name (codes "any") then Some (parsed at_last parse_any)
    else if bytes_eq name (codes "anyref") then Some (parsed never parse_any)
    else if bytes_eq name (codes "octets") then Some (tagged at_last OctetString parse_octets)
    else if bytes_eq name (codes "octetsref") then Some (tagged never OctetString parse_octets)
    else if bytes_eq name (codes "oid") then Some (tagged never ObjectIdentifier (parse_identifier 39))
    else if bytes_eq name (codes "oidref") then Some (tagged never ObjectIdentifier (parse_identifier 39))
    else None

-- a list of 64-bit integers, a list of any values, a pair of octets, and an octet that may be absent
unfoldable pub composed_types : Table
composed_types name =
    if bytes_eq name (codes "vec-i64") then Some (tagged between Sequence (parse_items (parse_tagged Integer (parse_signed 8))))
    else if bytes_eq name (codes "vec-anyref") then Some (tagged between Sequence (parse_items parse_any))
    else if bytes_eq name (codes "array2-u8") then Some (tagged never Sequence (parse_array 2 (parse_tagged Integer (parse_unsigned 1))))
    else if bytes_eq name (codes "opt-u8") then Some (parsed never (parse_option (λ tag. same_identifier tag Integer) (parse_tagged Integer (parse_unsigned 1))))
    else None

-- explicit tagging of an octet with an application, a context-specific or a private tag, and a list of such values
unfoldable pub tagged_types : Table
tagged_types name =
    if bytes_eq name (codes "ctx-u8") then Some (parsed never (parse_explicit 2 (parse_tagged Integer (parse_unsigned 1))))
    else if bytes_eq name (codes "app-u8") then Some (parsed never (parse_explicit 1 (parse_tagged Integer (parse_unsigned 1))))
    else if bytes_eq name (codes "prv-u8") then Some (parsed never (parse_explicit 3 (parse_tagged Integer (parse_unsigned 1))))
    else if bytes_eq name (codes "vec-ctx-u8") then Some (tagged between Sequence (parse_items (parse_explicit 2 (parse_tagged Integer (parse_unsigned 1)))))
    else None

-- INTEGER with any number of contents octets, and non-negative INTEGER
unfoldable pub number_types : Table
number_types name =
    if bytes_eq name (codes "int") then Some (tagged at_last Integer parse_integer)
    else if bytes_eq name (codes "intref") then Some (tagged never Integer parse_integer)
    else if bytes_eq name (codes "uint") then Some (tagged at_last Integer parse_natural)
    else if bytes_eq name (codes "uintref") then Some (tagged never Integer parse_natural)
    else None

-- strings with one octet for each character, of the type with a universal number
abbrev pub string : Taking → ℕ → Row
string memory number = tagged memory (string_tag number) (parse_string number)

unfoldable pub string_types : Table
string_types name =
    if bytes_eq name (codes "printable") then Some (string at_last 19)
    else if bytes_eq name (codes "printableref") then Some (string never 19)
    else if bytes_eq name (codes "teletex") then Some (string at_last 20)
    else if bytes_eq name (codes "teletexref") then Some (string never 20)
    else if bytes_eq name (codes "videotexref") then Some (string never 21)
    else if bytes_eq name (codes "ia5") then Some (string at_last 22)
    else if bytes_eq name (codes "ia5ref") then Some (string never 22)
    else if bytes_eq name (codes "utf8ref") then Some (tagged never Utf8String parse_utf8)
    else if bytes_eq name (codes "string") then Some (tagged at_last Utf8String parse_utf8)
    else if bytes_eq name (codes "generalref") then Some (tagged never GeneralString parse_octets)
    else if bytes_eq name (codes "bmp") then Some (tagged at_last BmpString parse_bmp)
    else None

-- BIT STRING, and explicit tagging of one
unfoldable pub bit_types : Table
bit_types name =
    if bytes_eq name (codes "bits") then Some (tagged at_last BitString parse_bit_string)
    else if bytes_eq name (codes "bitsref") then Some (tagged never BitString parse_bit_string)
    else if bytes_eq name (codes "ctx-bitsref") then Some (parsed never (parse_explicit 2 (parse_tagged BitString parse_bit_string)))
    else None

-- the encoding of a non-negative integer of two octets
abbrev pub parse_u16 : Parse
parse_u16 = parse_tagged Integer (parse_unsigned 2)

-- an AlgorithmIdentifier (RFC 5280 section 4.1.1.2): an object identifier, parameters that may be absent and begin with any tag, and no octets left over (3)
abbrev pub parse_algorithm_identifier : ContentsParse
parse_algorithm_identifier = parse_field (parse_tagged ObjectIdentifier (parse_identifier 39)) (parse_field (parse_option (λ tag. true) parse_any) parse_end)

-- a SEQUENCE that keeps its contents octets, one of at most five items, one that keeps the octets of its items, and an AlgorithmIdentifier
unfoldable pub nested_types : Table
nested_types name =
    if bytes_eq name (codes "sequenceref") then Some (tagged never Sequence parse_octets)
    else if bytes_eq name (codes "seqof5-u16") then Some (tagged never Sequence (parse_sequence_of 5 parse_u16))
    else if bytes_eq name (codes "seqref-u16") then Some (tagged never Sequence (parse_kept (parse_all_items parse_u16)))
    else if bytes_eq name (codes "algid") then Some (tagged never Sequence parse_algorithm_identifier)
    else None

-- sets of integers, of any values, and of AlgorithmIdentifiers
unfoldable pub set_types : Table
set_types name =
    if bytes_eq name (codes "setvec-anyref") then Some (tagged between Set (parse_set parse_any))
    else if bytes_eq name (codes "setvec-u16") then Some (tagged between Set (parse_set parse_u16))
    else if bytes_eq name (codes "setvec-algid") then Some (tagged between Set (parse_set (parse_tagged Sequence parse_algorithm_identifier)))
    else if bytes_eq name (codes "setof2-u16") then Some (tagged never Set (parse_set_up_to 2 parse_u16))
    else if bytes_eq name (codes "ctx-setof2-u16") then Some (parsed never (parse_explicit 2 (parse_tagged Set (parse_set_up_to 2 parse_u16))))
    else None

-- sets that borrow their contents octets
unfoldable pub borrowed_set_types : Table
borrowed_set_types name =
    if bytes_eq name (codes "setref-u16") then Some (tagged never Set (parse_borrowed parse_u16))
    else if bytes_eq name (codes "setref-octetsref") then Some (tagged never Set (parse_borrowed (parse_tagged OctetString parse_octets)))
    else if bytes_eq name (codes "setref-setvec-u16") then Some (tagged between Set (parse_borrowed (parse_tagged Set (parse_set parse_u16))))
    else None

-- the strings NumericString and VisibleString, RELATIVE-OID, and GeneralizedTime with a fraction of a second
unfoldable pub simple_types : Table
simple_types name =
    if bytes_eq name (codes "numericref") then Some (tagged never NumericString (parse_simple_string 18))
    else if bytes_eq name (codes "visibleref") then Some (tagged never VisibleString (parse_simple_string 26))
    else if bytes_eq name (codes "relativeoidref") then Some (tagged never RelativeOid parse_arcs)
    else if bytes_eq name (codes "fractionaltimeref") then Some (tagged never GeneralizedTime parse_fractional_time)
    else None

-- dates and times
unfoldable pub time_types : Table
time_types name =
    if bytes_eq name (codes "datetime") then Some (tagged never GeneralizedTime parse_generalized)
    else if bytes_eq name (codes "gentime") then Some (tagged never GeneralizedTime parse_generalized)
    else if bytes_eq name (codes "utctime") then Some (tagged never UtcTime parse_utc)
    else None

-- the row of the type with a name
unfoldable pub type_of : Table
type_of name = or_else (plain_types name) (or_else (signed_types name) (or_else (unsigned_types name) (or_else (opaque_types name) (or_else (composed_types name) (or_else (tagged_types name) (or_else (number_types name) (or_else (string_types name) (or_else (bit_types name) (or_else (nested_types name) (or_else (set_types name) (or_else (borrowed_set_types name) (or_else (simple_types name) (time_types name)))))))))))))
