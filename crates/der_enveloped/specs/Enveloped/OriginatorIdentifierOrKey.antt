-- The alternatives of OriginatorIdentifierOrKey, as a tree.
-- Made by tools/asn1 from enveloped.asn1.
use Rattle.der_cms.specs.declared.cms.issuer_and_serial_number.IssuerAndSerialNumber.{IssuerAndSerialNumber}
use Rattle.der_enveloped.specs.declared.enveloped.originator_identifier_or_key.OriginatorIdentifierOrKey.{OriginatorIdentifierOrKey}
use Rattle.der_enveloped.specs.declared.enveloped.originator_identifier_or_key.OriginatorIdentifierOrKey.TheVariants as of
use Rattle.der_fields.specs.declared.implicit.ImplicitIn.{ImplicitIn}
use Rattle.der_fields.specs.declared.one_of.OneOf.{OneOf}
use Rattle.der_fields.specs.declared.one_of.OneOf.TheVariants.{First, Other}
use Rattle.der_opaque.specs.declared.octet_string_ref.OctetStringRef.{OctetStringRef}
use Rattle.der_pkix.specs.declared.certificate.subject_public_key_info.SubjectPublicKeyInfo.{SubjectPublicKeyInfo}

abbrev pub tree_of : OriginatorIdentifierOrKey → (OneOf (OneOf IssuerAndSerialNumber (ImplicitIn OctetStringRef 2 0)) (ImplicitIn SubjectPublicKeyInfo 2 1))
tree_of (of.IssuerAndSerialNumber v) = First (First v)
tree_of (of.SubjectKeyIdentifier v) = First (Other v)
tree_of (of.OriginatorKey v) = Other v
