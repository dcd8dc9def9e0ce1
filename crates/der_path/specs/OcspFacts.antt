-- What RFC 6960 takes from an answer about the status of certificates: the facts that its octets show.
use Rattle.std.specs.Prelude.{◌≡◌, List, [], Bool, true, Option, Some, None, Vec}
use Rattle.std.specs.declared.alloc.Global.{Global}
use Rattle.std.specs.List.{list_any}
use Rattle.der_bits.specs.NamedBitsRef as bits
use Rattle.der_bits.specs.BitString.{bit}
use Rattle.der_bits.specs.declared.named_bits.NamedBitsRef.{NamedBitsRef}
use Rattle.der_lists.specs.ListRef as list
use Rattle.der_numbers.specs.IntRef as number
use Rattle.der_opaque.specs.ObjectIdentifierRef as identifier
use Rattle.der_opaque.specs.OctetStringRef as string
use Rattle.der_opaque.specs.declared.object_identifier_ref.ObjectIdentifierRef.{ObjectIdentifierRef}
use Rattle.der_pkix.specs.Certificate.Certificate as certificate
use Rattle.der_pkix.specs.Certificate.Extension as extension
use Rattle.der_pkix.specs.Certificate.TbsCertificate as tbs
use Rattle.der_pkix.specs.declared.certificate.certificate.Certificate.{Certificate}
use Rattle.der_pkix.specs.declared.certificate.extension.Extension.{Extension}
use Rattle.der_pkix.specs.declared.certificate.tbs_certificate.TbsCertificate.{TbsCertificate}
use Rattle.der_extensions.specs.Extension.ExtKeyUsageSyntax as listed_purposes
use Rattle.der_extensions.specs.declared.extension.ext_key_usage_syntax.ExtKeyUsageSyntax.{ExtKeyUsageSyntax}
use Rattle.der_ocsp.specs.Ocsp.BasicOcspResponse as response
use Rattle.der_ocsp.specs.Ocsp.CertId as id
use Rattle.der_ocsp.specs.Ocsp.Certificates as certificates
use Rattle.der_ocsp.specs.Ocsp.ResponseData as tbs_data
use Rattle.der_ocsp.specs.Ocsp.SingleResponse as single
use Rattle.der_ocsp.specs.Ocsp.SingleResponses as singles
use Rattle.der_ocsp.specs.declared.ocsp.basic_ocsp_response.BasicOcspResponse.{BasicOcspResponse}
use Rattle.der_ocsp.specs.declared.ocsp.certificates.Certificates.{Certificates}
use Rattle.der_ocsp.specs.declared.ocsp.responder_id.ResponderId.{ResponderId}
use Rattle.der_ocsp.specs.declared.ocsp.responder_id.ResponderId.TheVariants as of
use Rattle.der_ocsp.specs.declared.ocsp.single_response.SingleResponse.{SingleResponse}
use Rattle.der_ocsp.specs.declared.ocsp.single_responses.SingleResponses.{SingleResponses}
use Rattle.der_verify.specs.Rfc5280.{AreListed}
use Rattle.der_verify.specs.Shown.{AreShown}
use Rattle.der_path.specs.contracts.meanings.MeaningsMeantCertificate.TheImpl as certificate_form
use Rattle.der_path.specs.contracts.meanings.MeaningsMeantExtension.TheImpl as extension_form
use Rattle.der_path.specs.contracts.meanings.MeaningsMeantExtKeyUsageSyntax.TheImpl as purposes_form
use Rattle.der_path.specs.contracts.meanings.MeaningsMeantNamedBitsRef.TheImpl as usage_form
use Rattle.der_path.specs.contracts.meanings.MeaningsMeantKeyPurposeId.TheImpl as purpose_form
use Rattle.der_path.specs.contracts.meanings.MeaningsMeantSingleResponse.TheImpl as single_form
use Rattle.der_path.specs.declared.ocsp_facts.AnswerFacts.{AnswerFacts}
use Rattle.der_path.specs.declared.ocsp_facts.Delegate.{Delegate}
use Rattle.der_path.specs.declared.ocsp_facts.Delegate.TheVariants as kept
use Rattle.der_path.specs.declared.ocsp_facts.DelegateFacts.{DelegateFacts}
use Rattle.der_path.specs.declared.ocsp_facts.Purpose.{Purpose}
use Rattle.der_path.specs.declared.ocsp_facts.ResponderFacts.{ResponderFacts}
use Rattle.der_path.specs.declared.ocsp_facts.ResponderFacts.TheVariants as responder
use Rattle.der_path.specs.declared.ocsp_facts.Single.{Single}
use Rattle.der_path.specs.Facts.{has_unknown_critical, ShowsParts, ShowsValue}

abbrev pub is_critical : Extension → Bool
is_critical e = extension.critical e

-- a ResponderID (4.2.1)
abbrev pub ShowsResponder : ResponderId → ResponderFacts → Type 0
ShowsResponder (of.ByName v) (responder.Name parts) = ShowsParts v.fields.first parts.items
ShowsResponder (of.ByKey v) (responder.Key octets) = octets.now ≡ string.octets_of v.fields.first
ShowsResponder _ _ = ⊥

-- a SingleResponse (4.2.1)
pub record ShowsSingle (v : SingleResponse) (s : Single) : Type 0 where
  pub algorithm : s.algorithm.now ≡ identifier.octets_of (id.hash_algorithm (single.cert_id v)).oid
  pub name_hash : s.name_hash.now ≡ string.octets_of (id.issuer_name_hash (single.cert_id v))
  pub key_hash : s.key_hash.now ≡ string.octets_of (id.issuer_key_hash (single.cert_id v))
  pub serial : s.serial.now ≡ number.contents_of (id.serial_number (single.cert_id v))
  pub status : s.status ≡ single.cert_status v
  pub this_update : s.this_update ≡ single.this_update v
  pub next_update : s.next_update ≡ single.next_update v
  pub critical : (listed : List Extension) → AreListed extension_form.ghosts.FORM (single.single_extensions v) listed → s.has_critical ≡ list_any is_critical listed

abbrev pub ShowsEachSingle : SingleResponses → List Single → Type 0
ShowsEachSingle v kept = AreShown single_form.ghosts.FORM ShowsSingle (list.octets_of (singles.items_of v)) kept

-- a KeyPurposeId (RFC 5280 4.2.1.12)
abbrev pub ShowsPurpose : ObjectIdentifierRef 39 → Purpose → Type 0
ShowsPurpose v p = p.octets.now ≡ identifier.octets_of v

abbrev pub ShowsEachPurpose : Option ExtKeyUsageSyntax → Option (Vec Purpose Global) → Type 0
ShowsEachPurpose None None = Unit {0}
ShowsEachPurpose (Some v) (Some purposes) = AreShown purpose_form.ghosts.FORM ShowsPurpose (list.octets_of (listed_purposes.items_of v)) purposes.items
ShowsEachPurpose _ _ = ⊥

-- keyUsage (RFC 5280 4.2.1.3): "the digitalSignature bit is asserted when the subject public key is used for verifying digital signatures, other than signatures on certificates and CRLs"
abbrev pub signs : Option NamedBitsRef → Bool
signs None = true
signs (Some usage) = bit (bits.contents_of usage) 0

-- a certificate, as it is kept
pub record KeepsDelegate (c : TbsCertificate) (usage : Option NamedBitsRef) (extended : Option ExtKeyUsageSyntax) (is_unknown : Bool) (d : DelegateFacts) : Type 0 where
  pub issuer : ShowsParts (tbs.issuer c) d.issuer.items
  pub subject : ShowsParts (tbs.subject c) d.subject.items
  pub validity : d.validity ≡ tbs.validity c
  pub signs : d.signs ≡ signs usage
  pub purposes : ShowsEachPurpose extended d.purposes
  pub unknown : d.has_unknown_critical ≡ is_unknown

-- the facts that a certificate with these extensions shows
pub record ShowsDelegateFacts (c : TbsCertificate) (listed : List Extension) (d : DelegateFacts) : Type 0 where
  pub usage : Option NamedBitsRef
  pub is_usage : ShowsValue usage_form.ghosts.FORM 15 listed usage
  pub purposes : Option ExtKeyUsageSyntax
  pub are_purposes : ShowsValue purposes_form.ghosts.FORM 37 listed purposes
  pub kept : KeepsDelegate c usage purposes (has_unknown_critical listed) d

-- what is kept of a certificate: its facts, or that it shows none
abbrev pub IsDelegate : TbsCertificate → List Extension → Delegate → Type 0
IsDelegate c listed (kept.Read d) = ShowsDelegateFacts c listed d
IsDelegate c listed kept.Unread = (d : DelegateFacts) → ShowsDelegateFacts c listed d → ⊥

abbrev pub ShowsDelegate : Certificate → Delegate → Type 0
ShowsDelegate v d = (listed : List Extension) → AreListed extension_form.ghosts.FORM (tbs.extensions (certificate.tbs_certificate v)) listed → IsDelegate (certificate.tbs_certificate v) listed d

abbrev pub ShowsEachDelegate : Option Certificates → List Delegate → Type 0
ShowsEachDelegate None delegates = delegates ≡ []
ShowsEachDelegate (Some v) delegates = AreShown certificate_form.ghosts.FORM ShowsDelegate (list.octets_of (certificates.items_of v)) delegates

-- the facts that an answer shows
pub record ShowsAnswer (v : BasicOcspResponse) (f : AnswerFacts) : Type 0 where
  pub responder : ShowsResponder (tbs_data.responder_id (response.tbs_response_data v)) f.responder
  pub singles : ShowsEachSingle (tbs_data.responses (response.tbs_response_data v)) f.singles.items
  pub delegates : ShowsEachDelegate (response.certs v) f.delegates.items
  pub critical : (listed : List Extension) → AreListed extension_form.ghosts.FORM (tbs_data.response_extensions (response.tbs_response_data v)) listed → f.has_critical ≡ list_any is_critical listed
