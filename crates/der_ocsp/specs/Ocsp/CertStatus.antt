-- The alternatives of CertStatus, as a tree.
-- Made by tools/asn1 from ocsp.asn1.
use Rattle.der_fields.specs.declared.implicit.ImplicitIn.{ImplicitIn}
use Rattle.der_fields.specs.declared.one_of.OneOf.{OneOf}
use Rattle.der_fields.specs.declared.one_of.OneOf.TheVariants.{First, Other}
use Rattle.der_ocsp.specs.declared.ocsp.cert_status.CertStatus.{CertStatus}
use Rattle.der_ocsp.specs.declared.ocsp.cert_status.CertStatus.TheVariants as of
use Rattle.der_ocsp.specs.declared.ocsp.revoked_info.RevokedInfo.{RevokedInfo}
use Rattle.der_opaque.specs.declared.null.Null.{Null}

abbrev pub tree_of : CertStatus → (OneOf (OneOf (ImplicitIn Null 2 0) (ImplicitIn RevokedInfo 2 1)) (ImplicitIn Null 2 2))
tree_of (of.Good v) = First (First v)
tree_of (of.Revoked v) = First (Other v)
tree_of (of.Unknown v) = Other v
