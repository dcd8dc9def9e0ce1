use Rattle.der_c.proofs.Parts.{at_same}
use Rattle.der_c.proofs.building.ocsp_request.CertIdFromParts.from_parts.Goals as goal

pub returns-in-Err : goal.returns-in-Err
returns-in-Err c = c.in-Err.ensures

pub returns-in-Ok : goal.returns-in-Ok
returns-in-Ok c =
    let made = c.new.ensures in
    let read = c.in-Ok.ensures in (
      at_same made.hash_algorithm read.0,
      (
        at_same made.issuer_name_hash read.1.0,
        (
          at_same made.issuer_key_hash read.1.1.0,
          (
            at_same made.serial_number read.1.1.1.0,
            tt,
          ),
        ),
      ),
    )
