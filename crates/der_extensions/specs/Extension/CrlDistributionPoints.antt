-- The items of CRLDistributionPoints.
-- Made by tools/asn1 from extension.asn1.
use Rattle.der_extensions.specs.declared.extension.crl_distribution_points.CrlDistributionPoints.{CrlDistributionPoints}
use Rattle.der_extensions.specs.declared.extension.distribution_point.DistributionPoint.{DistributionPoint}
use Rattle.der_lists.specs.declared.list_ref.ListRef.{ListRef}

abbrev pub items_of : CrlDistributionPoints → ListRef DistributionPoint
items_of v = v.items.list
