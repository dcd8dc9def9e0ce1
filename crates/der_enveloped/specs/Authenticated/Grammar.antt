-- The grammar of CmsAuthenticated, in the words of ASN.1.
-- Made by tools/asn1 from authenticated.asn1.
use Rattle.der_cms.specs.Cms.Grammar.{cms_version, encapsulated_content_info, signed_attributes, unsigned_attributes}
use Rattle.der_enveloped.specs.Enveloped.Grammar.{originator_info, recipient_infos}
use Rattle.der_modules.specs.Asn1.{Grammar, IMPLICIT, OPTIONAL, SEQUENCE, context, end, field, one}
use Rattle.der_opaque.specs.Opaque.{parse_octets}
use Rattle.der_pkix.specs.Certificate.Grammar.{algorithm_identifier}
use Rattle.der_tlv.specs.declared.tag.Tag.TheVariants as tags

abbrev pub OCTET_STRING : Grammar
OCTET_STRING = one tags.OctetString parse_octets

-- AuthAttributes ::= SignedAttributes
abbrev pub auth_attributes : Grammar
auth_attributes =
    signed_attributes

-- UnauthAttributes ::= UnsignedAttributes
abbrev pub unauth_attributes : Grammar
unauth_attributes =
    unsigned_attributes

-- AuthenticatedData ::= SEQUENCE {
--      version           CMSVersion,
--      originatorInfo    [0] IMPLICIT OriginatorInfo OPTIONAL,
--      recipientInfos    RecipientInfos,
--      macAlgorithm      AlgorithmIdentifier,
--      digestAlgorithm   [1] AlgorithmIdentifier OPTIONAL,
--      encapContentInfo  EncapsulatedContentInfo,
--      authAttrs         [2] IMPLICIT AuthAttributes OPTIONAL,
--      mac               OCTET STRING,
--      unauthAttrs       [3] IMPLICIT UnauthAttributes OPTIONAL }
abbrev pub authenticated_data : Grammar
authenticated_data =
    SEQUENCE
    (field cms_version
    (OPTIONAL (IMPLICIT context 0 originator_info)
    (field recipient_infos
    (field algorithm_identifier
    (OPTIONAL (IMPLICIT context 1 algorithm_identifier)
    (field encapsulated_content_info
    (OPTIONAL (IMPLICIT context 2 auth_attributes)
    (field OCTET_STRING
    (OPTIONAL (IMPLICIT context 3 unauth_attributes)
    end)))))))))
