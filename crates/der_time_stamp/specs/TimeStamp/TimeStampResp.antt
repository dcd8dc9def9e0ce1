-- The fields of TimeStampResp, by their names.
-- Made by tools/asn1 from time_stamp.asn1.
use Rattle.std.specs.Prelude.{Option}
use Rattle.der_time_stamp.specs.declared.time_stamp.pki_status_info.PkiStatusInfo.{PkiStatusInfo}
use Rattle.der_time_stamp.specs.declared.time_stamp.time_stamp_resp.TimeStampResp.{TimeStampResp}
use Rattle.der_time_stamp.specs.declared.time_stamp.time_stamp_token.TimeStampToken.{TimeStampToken}

-- status PKIStatusInfo
abbrev pub status : TimeStampResp → PkiStatusInfo
status v = v.fields.list.first

-- timeStampToken TimeStampToken OPTIONAL
abbrev pub time_stamp_token : TimeStampResp → Option TimeStampToken
time_stamp_token v = v.fields.list.rest.first
