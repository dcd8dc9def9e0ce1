-- The fields of MacData, by their names.
-- Made by tools/asn1 from pkcs12.asn1.
use Rattle.std.specs.Prelude.{Option, ℕ}
use Rattle.der_opaque.specs.declared.octet_string_ref.OctetStringRef.{OctetStringRef}
use Rattle.der_pkcs.specs.declared.pkcs12.digest_info.DigestInfo.{DigestInfo}
use Rattle.der_pkcs.specs.declared.pkcs12.mac_data.MacData.{MacData}

-- mac DigestInfo
abbrev pub mac : MacData → DigestInfo
mac v = v.fields.list.first

-- macSalt OCTET STRING
abbrev pub mac_salt : MacData → OctetStringRef
mac_salt v = v.fields.list.rest.first

-- iterations INTEGER OPTIONAL
abbrev pub iterations : MacData → Option ℕ
iterations v = v.fields.list.rest.rest.first
