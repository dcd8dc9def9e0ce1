-- The items of PKIFreeText.
-- Made by tools/asn1 from time_stamp.asn1.
use Rattle.der_lists.specs.declared.list_ref.ListRef.{ListRef}
use Rattle.der_text.specs.declared.utf8_string.Utf8StringRef.{Utf8StringRef}
use Rattle.der_time_stamp.specs.declared.time_stamp.pki_free_text.PkiFreeText.{PkiFreeText}

abbrev pub items_of : PkiFreeText → ListRef Utf8StringRef
items_of v = v.items.list
