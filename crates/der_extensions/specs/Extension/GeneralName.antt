-- The alternatives of GeneralName, as a tree.
-- Made by tools/asn1 from extension.asn1.
use Rattle.der_ascii.specs.declared.string_ref.CharacterStringRef.{CharacterStringRef}
use Rattle.der_extensions.specs.declared.extension.another_name.AnotherName.{AnotherName}
use Rattle.der_extensions.specs.declared.extension.general_name.GeneralName.{GeneralName}
use Rattle.der_extensions.specs.declared.extension.general_name.GeneralName.TheVariants as of
use Rattle.der_fields.specs.declared.end.End.{End}
use Rattle.der_fields.specs.declared.explicit.ExplicitIn.{ExplicitIn}
use Rattle.der_fields.specs.declared.field.Field.{Field}
use Rattle.der_fields.specs.declared.implicit.ImplicitIn.{ImplicitIn}
use Rattle.der_fields.specs.declared.one_of.OneOf.{OneOf}
use Rattle.der_fields.specs.declared.one_of.OneOf.TheVariants.{First, Other}
use Rattle.der_nest.specs.declared.sequence_ref.SequenceRef.{SequenceRef}
use Rattle.der_opaque.specs.declared.object_identifier_ref.ObjectIdentifierRef.{ObjectIdentifierRef}
use Rattle.der_opaque.specs.declared.octet_string_ref.OctetStringRef.{OctetStringRef}
use Rattle.der_pkix.specs.declared.name.rdn_sequence.RdnSequence.{RdnSequence}

abbrev pub tree_of : GeneralName → (OneOf (OneOf (OneOf (OneOf (ImplicitIn AnotherName 2 0) (ImplicitIn (CharacterStringRef 22) 2 1)) (ImplicitIn (CharacterStringRef 22) 2 2)) (OneOf (ImplicitIn SequenceRef 2 3) (ExplicitIn (Field RdnSequence End) 2 4))) (OneOf (OneOf (ImplicitIn SequenceRef 2 5) (ImplicitIn (CharacterStringRef 22) 2 6)) (OneOf (ImplicitIn OctetStringRef 2 7) (ImplicitIn (ObjectIdentifierRef 39) 2 8))))
tree_of (of.OtherName v) = First (First (First (First v)))
tree_of (of.Rfc822Name v) = First (First (First (Other v)))
tree_of (of.DnsName v) = First (First (Other v))
tree_of (of.X400Address v) = First (Other (First v))
tree_of (of.DirectoryName v) = First (Other (Other v))
tree_of (of.EdiPartyName v) = Other (First (First v))
tree_of (of.UniformResourceIdentifier v) = Other (First (Other v))
tree_of (of.IpAddress v) = Other (Other (First v))
tree_of (of.RegisteredId v) = Other (Other (Other v))
