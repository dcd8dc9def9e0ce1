-- The order of RecipientInfo, of two values of one alternative.
-- Made by tools/asn1 from enveloped.asn1.
use Rattle.der_enveloped.proofs.enveloped.recipient_info.RecipientInfoDerOrd.der_cmp.Goals as goal

pub returns-in-Ktri-Ktri : goal.returns-in-Ktri-Ktri
returns-in-Ktri-Ktri c = rw c.in-Ktri-Ktri.is-0 (rw c.in-Ktri-Ktri.is-1 c.der_cmp.ensures)

pub returns-in-Kari-Kari : goal.returns-in-Kari-Kari
returns-in-Kari-Kari c = rw c.in-Kari-Kari.is-0 (rw c.in-Kari-Kari.is-1 c.der_cmp-in-Kari-Kari.ensures)
