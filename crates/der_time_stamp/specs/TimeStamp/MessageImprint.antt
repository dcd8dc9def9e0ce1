-- The fields of MessageImprint, by their names.
-- Made by tools/asn1 from time_stamp.asn1.
use Rattle.der_opaque.specs.declared.octet_string_ref.OctetStringRef.{OctetStringRef}
use Rattle.der_pkix.specs.declared.algorithm_identifier.AlgorithmIdentifier.{AlgorithmIdentifier}
use Rattle.der_time_stamp.specs.declared.time_stamp.message_imprint.MessageImprint.{MessageImprint}

-- hashAlgorithm AlgorithmIdentifier
abbrev pub hash_algorithm : MessageImprint → AlgorithmIdentifier
hash_algorithm v = v.fields.list.first

-- hashedMessage OCTET STRING
abbrev pub hashed_message : MessageImprint → OctetStringRef
hashed_message v = v.fields.list.rest.first
