-- The names of the certificate that was read.
use Rattle.std.proofs.Common.{refl, ap, ◌∙◌}
use Rattle.der_pkix.specs.Certificate.TbsCertificate as tbs
use Rattle.der_path.proofs.link.link_of.Goals as goal

pub returns-in-Ok : goal.returns-in-Ok
returns-in-Ok c = record {
  certificate = c.in-Ok.certificate;
  read = c.in-Ok.ensures;
  is_octets = refl;
  issuer = c.copy_of.ensures ∙ c.issuer.ensures ∙ ap tbs.issuer c.tbs_certificate-signed.ensures;
  subject = c.copy_of-in-Ok.ensures ∙ c.subject.ensures ∙ ap tbs.subject c.tbs_certificate-signed.ensures;
}
