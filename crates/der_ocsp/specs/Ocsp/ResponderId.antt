-- The alternatives of ResponderID, as a tree.
-- Made by tools/asn1 from ocsp.asn1.
use Rattle.der_fields.specs.declared.end.End.{End}
use Rattle.der_fields.specs.declared.explicit.ExplicitIn.{ExplicitIn}
use Rattle.der_fields.specs.declared.field.Field.{Field}
use Rattle.der_fields.specs.declared.one_of.OneOf.{OneOf}
use Rattle.der_fields.specs.declared.one_of.OneOf.TheVariants.{First, Other}
use Rattle.der_ocsp.specs.declared.ocsp.responder_id.ResponderId.{ResponderId}
use Rattle.der_ocsp.specs.declared.ocsp.responder_id.ResponderId.TheVariants as of
use Rattle.der_opaque.specs.declared.octet_string_ref.OctetStringRef.{OctetStringRef}
use Rattle.der_pkix.specs.declared.name.rdn_sequence.RdnSequence.{RdnSequence}

abbrev pub tree_of : ResponderId → (OneOf (ExplicitIn (Field RdnSequence End) 2 1) (ExplicitIn (Field OctetStringRef End) 2 2))
tree_of (of.ByName v) = First v
tree_of (of.ByKey v) = Other v
