-- The alternatives of Pbkdf2Salt, as a tree.
-- Made by tools/asn1 from encryption.asn1.
use Rattle.der_fields.specs.declared.one_of.OneOf.{OneOf}
use Rattle.der_fields.specs.declared.one_of.OneOf.TheVariants.{First, Other}
use Rattle.der_opaque.specs.declared.octet_string_ref.OctetStringRef.{OctetStringRef}
use Rattle.der_pkcs.specs.declared.encryption.pbkdf2_salt.Pbkdf2Salt.{Pbkdf2Salt}
use Rattle.der_pkcs.specs.declared.encryption.pbkdf2_salt.Pbkdf2Salt.TheVariants as of
use Rattle.der_pkix.specs.declared.algorithm_identifier.AlgorithmIdentifier.{AlgorithmIdentifier}

abbrev pub tree_of : Pbkdf2Salt → (OneOf OctetStringRef AlgorithmIdentifier)
tree_of (of.Specified v) = First v
tree_of (of.OtherSource v) = Other v
