-- The order of Pbkdf2Salt, of two values of one alternative.
-- Made by tools/asn1 from encryption.asn1.
use Rattle.der_pkcs.proofs.encryption.pbkdf2_salt.Pbkdf2SaltDerOrd.der_cmp.Goals as goal

pub returns-in-OtherSource-OtherSource : goal.returns-in-OtherSource-OtherSource
returns-in-OtherSource-OtherSource c = rw c.in-OtherSource-OtherSource.is-0 (rw c.in-OtherSource-OtherSource.is-1 c.der_cmp-in-OtherSource-OtherSource.ensures)
