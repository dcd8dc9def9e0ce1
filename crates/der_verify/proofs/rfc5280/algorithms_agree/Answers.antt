-- Equal algorithms have equal encodings.
use Rattle.der_pkix.specs.Certificate.Certificate as certificate_fields
use Rattle.der_pkix.specs.Certificate.TbsCertificate as tbs_fields
use Rattle.der_verify.proofs.Algorithms.{equal_encodings}
use Rattle.der_verify.proofs.rfc5280.algorithms_agree.Goals as goal

pub returns-clause-encodings : goal.returns-clause-encodings
returns-clause-encodings c =
    rw c.eq.ensures (rw c.signature.ensures (rw c.tbs_certificate.ensures (rw c.signature_algorithm.ensures (equal_encodings (tbs_fields.signature (certificate_fields.tbs_certificate c.args.certificate.now)) (certificate_fields.signature_algorithm c.args.certificate.now)))))
