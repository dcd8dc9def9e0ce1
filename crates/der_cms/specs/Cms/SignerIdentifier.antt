-- The alternatives of SignerIdentifier, as a tree.
-- Made by tools/asn1 from cms.asn1.
use Rattle.der_cms.specs.declared.cms.issuer_and_serial_number.IssuerAndSerialNumber.{IssuerAndSerialNumber}
use Rattle.der_cms.specs.declared.cms.signer_identifier.SignerIdentifier.{SignerIdentifier}
use Rattle.der_cms.specs.declared.cms.signer_identifier.SignerIdentifier.TheVariants as of
use Rattle.der_fields.specs.declared.implicit.ImplicitIn.{ImplicitIn}
use Rattle.der_fields.specs.declared.one_of.OneOf.{OneOf}
use Rattle.der_fields.specs.declared.one_of.OneOf.TheVariants.{First, Other}
use Rattle.der_opaque.specs.declared.octet_string_ref.OctetStringRef.{OctetStringRef}

abbrev pub tree_of : SignerIdentifier → (OneOf IssuerAndSerialNumber (ImplicitIn OctetStringRef 2 0))
tree_of (of.IssuerAndSerialNumber v) = First v
tree_of (of.SubjectKeyIdentifier v) = Other v
