-- The fields of Titled, by their names.
-- Made by tools/asn1 from shapes.asn1.
use Rattle.std.specs.Prelude.{Option, option_map}
use Rattle.der_additions.specs.declared.additions.Additions.{Additions}
use Rattle.der_opaque.specs.declared.octet_string.OctetString.{OctetString}
use Rattle.der_shapes.specs.declared.shapes.titled.Titled.{Titled}
use Rattle.der_text.specs.declared.utf8_string.Utf8StringRef.{Utf8StringRef}

-- title OCTET STRING
abbrev pub title : Titled → OctetString
title v = v.fields.list.first

-- note [0] UTF8String OPTIONAL
abbrev pub note : Titled → Option Utf8StringRef
note v = option_map (λ x. x.value) v.fields.list.rest.first

-- the elements after these, which the module does not have
abbrev pub additions : Titled → Additions
additions v = v.fields.list.rest.rest
