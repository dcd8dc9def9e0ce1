-- The grammar of each kind of message.
use Rattle.der_asn1_types.specs.Parsing.{Parse}
use Rattle.der_modules.specs.Asn1.{parse_of}
use Rattle.der_pkix.specs.Certificate.Grammar.{certificate, subject_public_key_info}
use Rattle.der_pkix.specs.Crl.Grammar.{certificate_list}
use Rattle.der_pkix.specs.Key.Grammar.{private_key_info, rsa_private_key, rsa_public_key, ec_private_key, ec_parameters}
use Rattle.der_pkcs.specs.Request.Grammar.{certification_request}
use Rattle.der_pkcs.specs.Encryption.Grammar.{encrypted_private_key_info}
use Rattle.der_pkcs.specs.Pkcs12.Grammar.{pfx}
use Rattle.der_pkcs.specs.Algorithm.Grammar.{dss_parms, dh_parameter, domain_parameters}
use Rattle.der_ocsp.specs.Ocsp.Grammar.{ocsp_request, ocsp_response}
use Rattle.der_cms.specs.Cms.Grammar.{content_info}
use Rattle.der_time_stamp.specs.TimeStamp.Grammar.{time_stamp_req, time_stamp_resp}
use Rattle.certview_text.specs.Dsa.{dsa_private_key}
use Rattle.certview_text.specs.declared.kind.Kind.{Kind}
use Rattle.certview_text.specs.declared.kind.Kind.TheVariants.{Certificate, RevocationList, PublicKey, PrivateKey, RsaPrivateKey, RsaPublicKey, EcPrivateKey, DsaPrivateKey, CertificationRequest, EncryptedPrivateKey, OcspRequest, OcspResponse, Cms, TimeStampQuery, TimeStampReply, Pkcs12, EcParameters, DsaParameters, DhParameters, X942Parameters}

-- the grammar that reads octets of this kind
abbrev pub grammar_of : Kind → Parse
grammar_of Certificate = parse_of certificate
grammar_of RevocationList = parse_of certificate_list
grammar_of PublicKey = parse_of subject_public_key_info
grammar_of PrivateKey = parse_of private_key_info
grammar_of RsaPrivateKey = parse_of rsa_private_key
grammar_of RsaPublicKey = parse_of rsa_public_key
grammar_of EcPrivateKey = parse_of ec_private_key
grammar_of DsaPrivateKey = parse_of dsa_private_key
grammar_of CertificationRequest = parse_of certification_request
grammar_of EncryptedPrivateKey = parse_of encrypted_private_key_info
grammar_of OcspRequest = parse_of ocsp_request
grammar_of OcspResponse = parse_of ocsp_response
grammar_of Cms = parse_of content_info
grammar_of TimeStampQuery = parse_of time_stamp_req
grammar_of TimeStampReply = parse_of time_stamp_resp
grammar_of Pkcs12 = parse_of pfx
grammar_of EcParameters = parse_of ec_parameters
grammar_of DsaParameters = parse_of dss_parms
grammar_of DhParameters = parse_of dh_parameter
grammar_of X942Parameters = parse_of domain_parameters
