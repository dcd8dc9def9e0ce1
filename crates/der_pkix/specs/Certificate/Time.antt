-- The alternatives of Time, as a tree.
-- Made by tools/asn1 from certificate.asn1.
use Rattle.der_fields.specs.declared.one_of.OneOf.{OneOf}
use Rattle.der_fields.specs.declared.one_of.OneOf.TheVariants.{First, Other}
use Rattle.der_pkix.specs.declared.certificate.time.Time.{Time}
use Rattle.der_pkix.specs.declared.certificate.time.Time.TheVariants as of
use Rattle.der_time.specs.declared.generalized_time.GeneralizedTime.{GeneralizedTime}
use Rattle.der_time.specs.declared.utc_time.UtcTime.{UtcTime}

abbrev pub tree_of : Time → (OneOf UtcTime GeneralizedTime)
tree_of (of.UtcTime v) = First v
tree_of (of.GeneralTime v) = Other v
