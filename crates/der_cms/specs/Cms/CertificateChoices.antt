-- The alternatives of CertificateChoices, as a tree.
-- Made by tools/asn1 from cms.asn1.
use Rattle.der_cms.specs.declared.cms.certificate_choices.CertificateChoices.{CertificateChoices}
use Rattle.der_cms.specs.declared.cms.certificate_choices.CertificateChoices.TheVariants as of
use Rattle.der_fields.specs.declared.implicit.ImplicitIn.{ImplicitIn}
use Rattle.der_fields.specs.declared.one_of.OneOf.{OneOf}
use Rattle.der_fields.specs.declared.one_of.OneOf.TheVariants.{First, Other}
use Rattle.der_nest.specs.declared.sequence_ref.SequenceRef.{SequenceRef}
use Rattle.der_pkix.specs.declared.certificate.certificate.Certificate.{Certificate}
use Rattle.der_pkix.specs.declared.name.attribute_type_and_value.AttributeTypeAndValue.{AttributeTypeAndValue}

abbrev pub tree_of : CertificateChoices → (OneOf (OneOf (OneOf Certificate (ImplicitIn SequenceRef 2 0)) (ImplicitIn SequenceRef 2 1)) (OneOf (ImplicitIn SequenceRef 2 2) (ImplicitIn AttributeTypeAndValue 2 3)))
tree_of (of.Certificate v) = First (First (First v))
tree_of (of.ExtendedCertificate v) = First (First (Other v))
tree_of (of.V1AttrCert v) = First (Other v)
tree_of (of.V2AttrCert v) = Other (First v)
tree_of (of.Other v) = Other (Other v)
