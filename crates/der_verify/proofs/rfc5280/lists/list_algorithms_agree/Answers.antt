-- Equal algorithms have equal encodings.
use Rattle.der_pkix.specs.Crl.CertificateList as list_fields
use Rattle.der_pkix.specs.Crl.TbsCertList as tbs_fields
use Rattle.der_verify.proofs.Algorithms.{equal_encodings}
use Rattle.der_verify.proofs.rfc5280.lists.list_algorithms_agree.Goals as goal

pub returns-clause-encodings : goal.returns-clause-encodings
returns-clause-encodings c =
    rw c.eq.ensures (rw c.signature.ensures (rw c.tbs_cert_list.ensures (rw c.signature_algorithm.ensures (equal_encodings (tbs_fields.signature (list_fields.tbs_cert_list c.args.list.now)) (list_fields.signature_algorithm c.args.list.now)))))
