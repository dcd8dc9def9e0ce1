-- The items of CertificateSet.
-- Made by tools/asn1 from cms.asn1.
use Rattle.der_cms.specs.declared.cms.certificate_choices.CertificateChoices.{CertificateChoices}
use Rattle.der_cms.specs.declared.cms.certificate_set.CertificateSet.{CertificateSet}
use Rattle.der_lists.specs.declared.unordered_set_ref.UnorderedSetRef.{UnorderedSetRef}

abbrev pub items_of : CertificateSet → UnorderedSetRef CertificateChoices
items_of v = v.items
