-- The fields of TSTInfo, by their names.
-- Made by tools/asn1 from time_stamp.asn1.
use Rattle.std.specs.Prelude.{Bool, Option, option_map, ℕ}
use Rattle.der_extensions.specs.declared.extension.general_name.GeneralName.{GeneralName}
use Rattle.der_numbers.specs.declared.int_ref.IntRef.{IntRef}
use Rattle.der_opaque.specs.declared.object_identifier_ref.ObjectIdentifierRef.{ObjectIdentifierRef}
use Rattle.der_pkix.specs.declared.certificate.extensions.Extensions.{Extensions}
use Rattle.der_simple.specs.declared.fractional_time.FractionalTimeRef.{FractionalTimeRef}
use Rattle.der_time_stamp.specs.declared.time_stamp.accuracy.Accuracy.{Accuracy}
use Rattle.der_time_stamp.specs.declared.time_stamp.message_imprint.MessageImprint.{MessageImprint}
use Rattle.der_time_stamp.specs.declared.time_stamp.tst_info.TstInfo.{TstInfo}

-- version INTEGER { v1 (1) }
abbrev pub version : TstInfo → ℕ
version v = v.fields.list.first

-- policy TSAPolicyId
abbrev pub policy : TstInfo → ObjectIdentifierRef 39
policy v = v.fields.list.rest.first

-- messageImprint MessageImprint
abbrev pub message_imprint : TstInfo → MessageImprint
message_imprint v = v.fields.list.rest.rest.first

-- serialNumber INTEGER
abbrev pub serial_number : TstInfo → IntRef
serial_number v = v.fields.list.rest.rest.rest.first

-- genTime GeneralizedTime
abbrev pub gen_time : TstInfo → FractionalTimeRef
gen_time v = v.fields.list.rest.rest.rest.rest.first

-- accuracy Accuracy OPTIONAL
abbrev pub accuracy : TstInfo → Option Accuracy
accuracy v = v.fields.list.rest.rest.rest.rest.rest.first

-- ordering BOOLEAN DEFAULT FALSE
abbrev pub ordering : TstInfo → Bool
ordering v = v.fields.list.rest.rest.rest.rest.rest.rest.first.value

-- nonce INTEGER OPTIONAL
abbrev pub nonce : TstInfo → Option IntRef
nonce v = v.fields.list.rest.rest.rest.rest.rest.rest.rest.first

-- tsa [0] GeneralName OPTIONAL
abbrev pub tsa : TstInfo → Option GeneralName
tsa v = option_map (λ x. x.fields.first) v.fields.list.rest.rest.rest.rest.rest.rest.rest.rest.list.first

-- extensions [1] IMPLICIT Extensions OPTIONAL
abbrev pub extensions : TstInfo → Option Extensions
extensions v = option_map (λ x. x.value) v.fields.list.rest.rest.rest.rest.rest.rest.rest.rest.list.rest.first
