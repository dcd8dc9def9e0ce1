use Rattle.der_c.proofs.Parts.{at_same}
use Rattle.der_c.proofs.building.certificate_list.CertificateListFromParts.from_parts.Goals as goal

pub returns-in-Err : goal.returns-in-Err
returns-in-Err c = c.in-Err.ensures

pub returns-in-Ok : goal.returns-in-Ok
returns-in-Ok c =
    let made = c.new.ensures in
    let read = c.in-Ok.ensures in (
      at_same made.tbs_cert_list read.0,
      (
        at_same made.signature_algorithm read.1.0,
        (
          at_same made.signature_value read.1.1.0,
          tt,
        ),
      ),
    )
