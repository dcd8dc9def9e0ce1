-- The fields of TimeStampReq, by their names.
-- Made by tools/asn1 from time_stamp.asn1.
use Rattle.std.specs.Prelude.{Bool, Option, option_map, ℕ}
use Rattle.der_numbers.specs.declared.int_ref.IntRef.{IntRef}
use Rattle.der_opaque.specs.declared.object_identifier_ref.ObjectIdentifierRef.{ObjectIdentifierRef}
use Rattle.der_pkix.specs.declared.certificate.extensions.Extensions.{Extensions}
use Rattle.der_time_stamp.specs.declared.time_stamp.message_imprint.MessageImprint.{MessageImprint}
use Rattle.der_time_stamp.specs.declared.time_stamp.time_stamp_req.TimeStampReq.{TimeStampReq}

-- version INTEGER { v1 (1) }
abbrev pub version : TimeStampReq → ℕ
version v = v.fields.list.first

-- messageImprint MessageImprint
abbrev pub message_imprint : TimeStampReq → MessageImprint
message_imprint v = v.fields.list.rest.first

-- reqPolicy TSAPolicyId OPTIONAL
abbrev pub req_policy : TimeStampReq → Option (ObjectIdentifierRef 39)
req_policy v = v.fields.list.rest.rest.first

-- nonce INTEGER OPTIONAL
abbrev pub nonce : TimeStampReq → Option IntRef
nonce v = v.fields.list.rest.rest.rest.first

-- certReq BOOLEAN DEFAULT FALSE
abbrev pub cert_req : TimeStampReq → Bool
cert_req v = v.fields.list.rest.rest.rest.rest.first.value

-- extensions [0] IMPLICIT Extensions OPTIONAL
abbrev pub extensions : TimeStampReq → Option Extensions
extensions v = option_map (λ x. x.value) v.fields.list.rest.rest.rest.rest.rest.first
