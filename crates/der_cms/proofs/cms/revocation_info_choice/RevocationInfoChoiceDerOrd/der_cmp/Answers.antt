-- The order of RevocationInfoChoice, of two values of one alternative.
-- Made by tools/asn1 from cms.asn1.
use Rattle.der_cms.proofs.cms.revocation_info_choice.RevocationInfoChoiceDerOrd.der_cmp.Goals as goal

pub returns-in-Crl-Crl : goal.returns-in-Crl-Crl
returns-in-Crl-Crl c = rw c.in-Crl-Crl.is-0 (rw c.in-Crl-Crl.is-1 c.der_cmp.ensures)
