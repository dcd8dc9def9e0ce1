-- Extensions by their identifiers (RFC 5280 4.2).
use Rattle.std.specs.Prelude.{◌≡◌, ℕ, nat_eq, List, [], ◌∷◌, filter, Bool, if◌then◌else◌, Option, Some, None, Result, Ok, Err}
use Rattle.std.specs.Cmp.Lexicographic.{pointwise}
use Rattle.der_tlv.specs.declared.error.ErrorKind.TheVariants.{Value}
use Rattle.der_tlv.specs.declared.tag.Tag.TheVariants.{Sequence}
use Rattle.der_tlv.specs.declared.error.Error.{Error}
use Rattle.der_elem.specs.declared.form.Form as form
use Rattle.der_opaque.specs.ObjectIdentifierRef.{octets_of}
use Rattle.der_opaque.specs.OctetStringRef as string
use Rattle.der_lists.specs.Items.{AreItems}
use Rattle.der_lists.specs.ListRef as list
use Rattle.der_pkix.specs.declared.certificate.extension.Extension.{Extension}
use Rattle.der_pkix.specs.declared.certificate.extensions.Extensions.{Extensions}
use Rattle.der_pkix.specs.Certificate.Extension as extension_fields
use Rattle.der_pkix.specs.Certificate.Extensions as extensions_items

-- whether the identifier of an extension has these contents octets
abbrev pub has_identifier : List ℕ → Extension → Bool
has_identifier identifier e = pointwise nat_eq (octets_of (extension_fields.extn_id e)) identifier

-- the items of Extensions
abbrev pub AreExtensions : form.Ghosts Extension → Extensions → List Extension → Type 0
AreExtensions F extensions items = AreItems F (list.octets_of (extensions_items.items_of extensions)) items

-- the extensions with an identifier, in their order
abbrev pub with_identifier : List ℕ → List Extension → List Extension
with_identifier identifier extensions = filter (has_identifier identifier) extensions

-- the only one of a list, none for an empty list, or an error (13) for more than one
abbrev pub FindsOne : form.Ghosts Extension → List Extension → Result (Option Extension) Error → Type 0
FindsOne F [] (Ok None) = Unit {0}
FindsOne F (e ∷ []) (Ok (Some found)) = F.encoding found ≡ F.encoding e
FindsOne F (e ∷ (f ∷ others)) (Err error) = error.kind ≡ Value Sequence
FindsOne F _ _ = ⊥

-- the octets of the value of the first extension with an identifier; none if no extension has it
abbrev pub value_of : List ℕ → List Extension → List ℕ
value_of identifier [] = []
value_of identifier (e ∷ others) = if has_identifier identifier e then string.octets_of (extension_fields.extn_value e) else value_of identifier others
