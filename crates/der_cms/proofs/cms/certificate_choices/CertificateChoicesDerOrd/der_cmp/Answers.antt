-- The order of CertificateChoices, of two values of one alternative.
-- Made by tools/asn1 from cms.asn1.
use Rattle.der_cms.proofs.cms.certificate_choices.CertificateChoicesDerOrd.der_cmp.Goals as goal

pub returns-in-Certificate-Certificate : goal.returns-in-Certificate-Certificate
returns-in-Certificate-Certificate c = rw c.in-Certificate-Certificate.is-0 (rw c.in-Certificate-Certificate.is-1 c.der_cmp.ensures)
