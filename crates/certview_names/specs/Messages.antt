-- The messages that lines name: the grammars of their modules, and when decoding takes memory.
use Rattle.std.specs.Prelude.{None, Some, if◌then◌else◌, codes}
use Rattle.std.specs.Str.{bytes_eq}
use Rattle.der_lines.specs.Rows.{Row, Taking, never, parsed}
use Rattle.der_lines.specs.Tables.{Table, or_else}
use Rattle.der_modules.specs.Asn1.{Grammar, parse_of}
use Rattle.der_pkix.specs.Certificate.Grammar as certificates
use Rattle.der_pkix.specs.Crl.Grammar as lists
use Rattle.der_extensions.specs.Extension.Grammar as values
use Rattle.der_pkix.specs.Key.Grammar as keys
use Rattle.der_pkix.specs.Name.Grammar as names
use Rattle.der_pkcs.specs.Request.Grammar as requests
use Rattle.der_pkcs.specs.Encryption.Grammar as encryption
use Rattle.der_pkcs.specs.Pkcs12.Grammar as files
use Rattle.der_pkcs.specs.Algorithm.Grammar as algorithms
use Rattle.der_ocsp.specs.Ocsp.Grammar as status
use Rattle.der_cms.specs.Cms.Grammar as signed
use Rattle.der_enveloped.specs.Enveloped.Grammar as enveloped
use Rattle.der_enveloped.specs.Authenticated.Grammar as authenticated
use Rattle.der_time_stamp.specs.TimeStamp.Grammar as stamps

-- the row of a message: its grammar, and when decoding it takes memory
abbrev pub message : Taking → Grammar → Row
message memory g = parsed memory (parse_of g)

-- certificates and their parts
unfoldable pub certificate_messages : Table
certificate_messages name =
    if bytes_eq name (codes "cert") then Some (message never certificates.certificate)
    else if bytes_eq name (codes "tbs") then Some (message never certificates.tbs_certificate)
    else if bytes_eq name (codes "spki") then Some (message never certificates.subject_public_key_info)
    else if bytes_eq name (codes "exts") then Some (message never certificates.extensions)
    else if bytes_eq name (codes "ext") then Some (message never certificates.extension)
    else None

-- lists of revoked certificates
unfoldable pub list_messages : Table
list_messages name =
    if bytes_eq name (codes "crl") then Some (message never lists.certificate_list)
    else if bytes_eq name (codes "tbscrl") then Some (message never lists.tbs_cert_list)
    else if bytes_eq name (codes "revoked") then Some (message never lists.revoked_certificate)
    else None

-- keys
unfoldable pub key_messages : Table
key_messages name =
    if bytes_eq name (codes "pkcs8") then Some (message never keys.private_key_info)
    else if bytes_eq name (codes "rsapub") then Some (message never keys.rsa_public_key)
    else if bytes_eq name (codes "rsapriv") then Some (message never keys.rsa_private_key)
    else if bytes_eq name (codes "ecpriv") then Some (message never keys.ec_private_key)
    else if bytes_eq name (codes "ecparams") then Some (message never keys.ec_parameters)
    else None

-- names and algorithms
unfoldable pub name_messages : Table
name_messages name =
    if bytes_eq name (codes "name") then Some (message never names.name)
    else if bytes_eq name (codes "rdn") then Some (message never names.relative_distinguished_name)
    else if bytes_eq name (codes "algid") then Some (message never certificates.algorithm_identifier)
    else if bytes_eq name (codes "generalname") then Some (message never values.general_name)
    else None

-- requests, and messages protected by a password
unfoldable pub request_messages : Table
request_messages name =
    if bytes_eq name (codes "request") then Some (message never requests.certification_request)
    else if bytes_eq name (codes "requestinfo") then Some (message never requests.certification_request_info)
    else if bytes_eq name (codes "encryptedkey") then Some (message never encryption.encrypted_private_key_info)
    else if bytes_eq name (codes "pfx") then Some (message never files.pfx)
    else None

-- parameters of algorithms
unfoldable pub parameter_messages : Table
parameter_messages name =
    if bytes_eq name (codes "pbes2") then Some (message never encryption.pbes2_params)
    else if bytes_eq name (codes "pbkdf2") then Some (message never encryption.pbkdf2_params)
    else if bytes_eq name (codes "dsaparams") then Some (message never algorithms.dss_parms)
    else if bytes_eq name (codes "dhparams") then Some (message never algorithms.dh_parameter)
    else if bytes_eq name (codes "x942params") then Some (message never algorithms.domain_parameters)
    else None

-- requests for the status of certificates, and responses
unfoldable pub status_messages : Table
status_messages name =
    if bytes_eq name (codes "ocsprequest") then Some (message never status.ocsp_request)
    else if bytes_eq name (codes "ocspresponse") then Some (message never status.ocsp_response)
    else if bytes_eq name (codes "basicocsp") then Some (message never status.basic_ocsp_response)
    else if bytes_eq name (codes "singleresponse") then Some (message never status.single_response)
    else if bytes_eq name (codes "certid") then Some (message never status.cert_id)
    else None

-- signed and digested messages, and their parts
unfoldable pub signed_messages : Table
signed_messages name =
    if bytes_eq name (codes "contentinfo") then Some (message never signed.content_info)
    else if bytes_eq name (codes "signeddata") then Some (message never signed.signed_data)
    else if bytes_eq name (codes "signerinfo") then Some (message never signed.signer_info)
    else if bytes_eq name (codes "digesteddata") then Some (message never signed.digested_data)
    else if bytes_eq name (codes "attribute") then Some (message never names.attribute)
    else None

-- messages for recipients: enveloped, encrypted and authenticated ones
unfoldable pub recipient_messages : Table
recipient_messages name =
    if bytes_eq name (codes "envelopeddata") then Some (message never enveloped.enveloped_data)
    else if bytes_eq name (codes "encrypteddata") then Some (message never signed.encrypted_data)
    else if bytes_eq name (codes "authenticateddata") then Some (message never authenticated.authenticated_data)
    else None

-- requests for time stamps, and responses
unfoldable pub stamp_messages : Table
stamp_messages name =
    if bytes_eq name (codes "timestampreq") then Some (message never stamps.time_stamp_req)
    else if bytes_eq name (codes "timestampresp") then Some (message never stamps.time_stamp_resp)
    else if bytes_eq name (codes "tstinfo") then Some (message never stamps.tst_info)
    else None

-- values of extensions about a key
unfoldable pub key_values : Table
key_values name =
    if bytes_eq name (codes "keyusage") then Some (message never values.key_usage)
    else if bytes_eq name (codes "extkeyusage") then Some (message never values.ext_key_usage_syntax)
    else if bytes_eq name (codes "subjectkeyid") then Some (message never values.subject_key_identifier)
    else if bytes_eq name (codes "authoritykeyid") then Some (message never values.authority_key_identifier)
    else if bytes_eq name (codes "privatekeyusageperiod") then Some (message never values.private_key_usage_period)
    else None

-- values of extensions about a subject or an issuer
unfoldable pub subject_values : Table
subject_values name =
    if bytes_eq name (codes "basicconstraints") then Some (message never values.basic_constraints)
    else if bytes_eq name (codes "subjectaltname") then Some (message never values.subject_alt_name)
    else if bytes_eq name (codes "issueraltname") then Some (message never values.issuer_alt_name)
    else if bytes_eq name (codes "subjectdirectoryattributes") then Some (message never values.subject_directory_attributes)
    else if bytes_eq name (codes "nameconstraints") then Some (message never values.name_constraints)
    else None

-- values of extensions about policies
unfoldable pub policy_values : Table
policy_values name =
    if bytes_eq name (codes "certificatepolicies") then Some (message never values.certificate_policies)
    else if bytes_eq name (codes "policymappings") then Some (message never values.policy_mappings)
    else if bytes_eq name (codes "policyconstraints") then Some (message never values.policy_constraints)
    else if bytes_eq name (codes "inhibitanypolicy") then Some (message never values.inhibit_any_policy)
    else None

-- values of extensions about locations
unfoldable pub access_values : Table
access_values name =
    if bytes_eq name (codes "crldistributionpoints") then Some (message never values.crl_distribution_points)
    else if bytes_eq name (codes "freshestcrl") then Some (message never values.freshest_crl)
    else if bytes_eq name (codes "authorityinfoaccess") then Some (message never values.authority_info_access_syntax)
    else if bytes_eq name (codes "subjectinfoaccess") then Some (message never values.subject_info_access_syntax)
    else None

-- values of extensions of lists
unfoldable pub list_values : Table
list_values name =
    if bytes_eq name (codes "crlnumber") then Some (message never values.crl_number)
    else if bytes_eq name (codes "deltacrlindicator") then Some (message never values.base_crl_number)
    else if bytes_eq name (codes "issuingdistributionpoint") then Some (message never values.issuing_distribution_point)
    else None

-- values of extensions of entries in lists
unfoldable pub entry_values : Table
entry_values name =
    if bytes_eq name (codes "crlreason") then Some (message never values.crl_reason)
    else if bytes_eq name (codes "invaliditydate") then Some (message never values.invalidity_date)
    else if bytes_eq name (codes "certificateissuer") then Some (message never values.certificate_issuer)
    else if bytes_eq name (codes "holdinstructioncode") then Some (message never values.hold_instruction_code)
    else None

-- messages and their parts
unfoldable pub all_messages : Table
all_messages name =
    or_else (certificate_messages name)
    (or_else (list_messages name)
    (or_else (key_messages name)
    (or_else (name_messages name)
    (or_else (request_messages name)
    (or_else (parameter_messages name)
    (or_else (status_messages name)
    (or_else (signed_messages name)
    (or_else (recipient_messages name) (stamp_messages name)))))))))

-- values of extensions
unfoldable pub all_values : Table
all_values name =
    or_else (key_values name)
    (or_else (subject_values name)
    (or_else (policy_values name)
    (or_else (access_values name)
    (or_else (list_values name) (entry_values name)))))

-- the row of the message or the value with a name
unfoldable pub message_of : Table
message_of name =
    or_else (all_messages name) (all_values name)
