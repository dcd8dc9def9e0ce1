-- The words of ASN.1 (X.680) for lists that borrow; each is what the octets of its type are read as (X.690).
use Rattle.der_tlv.specs.declared.tag.Tag.TheVariants as tags
use Rattle.der_nest.specs.KeptFormat.{parse_kept}
use Rattle.der_nest.specs.BorrowedSequences.{parse_all_items}
use Rattle.der_modules.specs.Asn1.{Grammar, one, parse_of}
use Rattle.der_lists.specs.SetFormat.{parse_kept_set}

-- `SEQUENCE OF A` (X.690 8.10): the contents octets as they were read, if they are items until nothing is left
abbrev pub SEQUENCE_OF : Grammar → Grammar
SEQUENCE_OF g = one tags.Sequence (parse_kept (parse_all_items (parse_of g)))

-- `SET OF A`: the octets of an item are not less than those of the one before it (11.6)
abbrev pub SET_OF : Grammar → Grammar
SET_OF g = one tags.Set (parse_kept_set (parse_of g))

-- `SET OF A` in BER, in any order (8.12)
abbrev pub SET_OF_ANY_ORDER : Grammar → Grammar
SET_OF_ANY_ORDER g = one tags.Set (parse_kept (parse_all_items (parse_of g)))
