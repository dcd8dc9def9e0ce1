-- The alternatives of RevocationInfoChoice, as a tree.
-- Made by tools/asn1 from cms.asn1.
use Rattle.der_cms.specs.declared.cms.revocation_info_choice.RevocationInfoChoice.{RevocationInfoChoice}
use Rattle.der_cms.specs.declared.cms.revocation_info_choice.RevocationInfoChoice.TheVariants as of
use Rattle.der_fields.specs.declared.implicit.ImplicitIn.{ImplicitIn}
use Rattle.der_fields.specs.declared.one_of.OneOf.{OneOf}
use Rattle.der_fields.specs.declared.one_of.OneOf.TheVariants.{First, Other}
use Rattle.der_pkix.specs.declared.crl.certificate_list.CertificateList.{CertificateList}
use Rattle.der_pkix.specs.declared.name.attribute_type_and_value.AttributeTypeAndValue.{AttributeTypeAndValue}

abbrev pub tree_of : RevocationInfoChoice → (OneOf CertificateList (ImplicitIn AttributeTypeAndValue 2 1))
tree_of (of.Crl v) = First v
tree_of (of.Other v) = Other v
