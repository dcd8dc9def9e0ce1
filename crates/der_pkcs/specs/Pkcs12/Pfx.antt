-- The fields of PFX, by their names.
-- Made by tools/asn1 from pkcs12.asn1.
use Rattle.std.specs.Prelude.{Option, ℕ}
use Rattle.der_pkcs.specs.declared.pkcs12.content_info.ContentInfo.{ContentInfo}
use Rattle.der_pkcs.specs.declared.pkcs12.mac_data.MacData.{MacData}
use Rattle.der_pkcs.specs.declared.pkcs12.pfx.Pfx.{Pfx}

-- version INTEGER { v3 (3) }
abbrev pub version : Pfx → ℕ
version v = v.fields.list.first

-- authSafe ContentInfo
abbrev pub auth_safe : Pfx → ContentInfo
auth_safe v = v.fields.list.rest.first

-- macData MacData OPTIONAL
abbrev pub mac_data : Pfx → Option MacData
mac_data v = v.fields.list.rest.rest.first
