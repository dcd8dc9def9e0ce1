-- What section 6.3.3 of RFC 5280 takes from a certificate and from a list of revoked certificates: the facts that their octets show.
use Rattle.std.specs.Prelude.{◌≡◌, ℕ, nat_eq, List, [], Bool, false, not, ◌&&◌, ◌||◌, Option, Some, None, Vec}
use Rattle.std.specs.declared.alloc.Global.{Global}
use Rattle.std.specs.Cmp.Lexicographic.{pointwise}
use Rattle.std.specs.List.{list_any}
use Rattle.der_bits.specs.declared.named_bits.NamedBitsRef.{NamedBitsRef}
use Rattle.der_lists.specs.ListRef as list
use Rattle.der_lists.specs.declared.list_ref.ListRef.{ListRef}
use Rattle.der_numbers.specs.IntRef as number
use Rattle.der_numbers.specs.declared.enumerated.Enumerated.{Enumerated}
use Rattle.der_numbers.specs.declared.uint_ref.UintRef.{UintRef}
use Rattle.der_opaque.specs.ObjectIdentifierRef as identifier
use Rattle.der_pkix.specs.Certificate.Extension as extension
use Rattle.der_pkix.specs.Certificate.TbsCertificate as tbs
use Rattle.der_pkix.specs.Crl.RevokedCertificate as entry
use Rattle.der_pkix.specs.Crl.TbsCertList as tbs_list
use Rattle.der_pkix.specs.declared.certificate.extension.Extension.{Extension}
use Rattle.der_pkix.specs.declared.certificate.tbs_certificate.TbsCertificate.{TbsCertificate}
use Rattle.der_pkix.specs.declared.crl.revoked_certificate.RevokedCertificate.{RevokedCertificate}
use Rattle.der_pkix.specs.declared.crl.tbs_cert_list.TbsCertList.{TbsCertList}
use Rattle.der_extensions.specs.Extension.GeneralNames as listed_names
use Rattle.der_extensions.specs.Extension.IssuingDistributionPoint as point
use Rattle.der_extensions.specs.declared.extension.crl_reason.CrlReason.{CrlReason}
use Rattle.der_extensions.specs.declared.extension.distribution_point_name.DistributionPointName.{DistributionPointName}
use Rattle.der_extensions.specs.declared.extension.distribution_point_name.DistributionPointName.TheVariants as of
use Rattle.der_extensions.specs.declared.extension.general_names.GeneralNames.{GeneralNames}
use Rattle.der_extensions.specs.declared.extension.issuing_distribution_point.IssuingDistributionPoint.{IssuingDistributionPoint}
use Rattle.der_verify.specs.Rfc5280.{id_ce, AreListed}
use Rattle.der_verify.specs.Shown.{AreShown}
use Rattle.der_path.specs.contracts.meanings.MeaningsMeantEnumeratedCrlReason.TheImpl as reason_form
use Rattle.der_path.specs.contracts.meanings.MeaningsMeantExtension.TheImpl as extension_form
use Rattle.der_path.specs.contracts.meanings.MeaningsMeantGeneralName.TheImpl as name_form
use Rattle.der_path.specs.contracts.meanings.MeaningsMeantGeneralNames.TheImpl as names_form
use Rattle.der_path.specs.contracts.meanings.MeaningsMeantIssuingDistributionPoint.TheImpl as point_form
use Rattle.der_path.specs.contracts.meanings.MeaningsMeantRevokedCertificate.TheImpl as entry_form
use Rattle.der_path.specs.contracts.meanings.MeaningsMeantUintRef.TheImpl as number_form
use Rattle.der_path.specs.declared.facts.Uses.{Uses}
use Rattle.der_path.specs.declared.revocation_facts.Entry.{Entry}
use Rattle.der_path.specs.declared.revocation_facts.Entry.TheVariants as kept
use Rattle.der_path.specs.declared.revocation_facts.EntryFacts.{EntryFacts}
use Rattle.der_path.specs.declared.revocation_facts.ListFacts.{ListFacts}
use Rattle.der_path.specs.declared.revocation_facts.PointName.{PointName}
use Rattle.der_path.specs.declared.revocation_facts.PointName.TheVariants as name
use Rattle.der_path.specs.declared.revocation_facts.Scope.{Scope}
use Rattle.der_path.specs.declared.revocation_facts.Target.{Target}
use Rattle.der_path.specs.Facts.{ShowsEachName, ShowsName, ShowsPart, ShowsParts, ShowsUses, ShowsValue}

-- the issuer, the serial number, and cA of basicConstraints (4.2.1.9)
pub record ShowsTarget (c : TbsCertificate) (listed : List Extension) (t : Target) : Type 0 where
  pub issuer : ShowsParts (tbs.issuer c) t.issuer.items
  pub serial : t.serial.now ≡ number.contents_of (tbs.serial_number c)
  pub uses : Uses
  pub are_uses : ShowsUses listed uses
  pub is_ca : t.is_ca ≡ uses.is_ca

-- a DistributionPointName (4.2.1.13)
abbrev pub ShowsPoint : DistributionPointName → PointName → Type 0
ShowsPoint (of.FullName v) (name.Full names) = AreShown name_form.ghosts.FORM ShowsName (list.octets_of (listed_names.items_of v.value)) names.items
ShowsPoint (of.NameRelativeToCrlIssuer v) (name.Relative part) = ShowsPart v.value part
ShowsPoint _ _ = ⊥

abbrev pub ShowsPointName : Option DistributionPointName → Option PointName → Type 0
ShowsPointName None None = Unit {0}
ShowsPointName (Some v) (Some n) = ShowsPoint v n
ShowsPointName _ _ = ⊥

-- the fields of issuingDistributionPoint, or their defaults
abbrev pub name_in : Option IssuingDistributionPoint → Option DistributionPointName
name_in None = None
name_in (Some v) = point.distribution_point v

abbrev pub reasons_in : Option IssuingDistributionPoint → Option NamedBitsRef
reasons_in None = None
reasons_in (Some v) = point.only_some_reasons v

abbrev pub is_set : (IssuingDistributionPoint → Bool) → Option IssuingDistributionPoint → Bool
is_set flag None = false
is_set flag (Some v) = flag v

-- issuingDistributionPoint (5.2.5)
pub record ShowsScope (p : Option IssuingDistributionPoint) (s : Scope) : Type 0 where
  pub name : ShowsPointName (name_in p) s.name
  pub user : s.has_user_alone ≡ is_set point.only_contains_user_certs p
  pub ca : s.has_ca_alone ≡ is_set point.only_contains_ca_certs p
  pub reasons : s.reasons ≡ reasons_in p
  pub indirect : s.is_indirect ≡ is_set point.indirect_crl p
  pub attribute : s.has_attribute_alone ≡ is_set point.only_contains_attribute_certs p

abbrev pub reason_in : Option (Enumerated CrlReason) → Option CrlReason
reason_in None = None
reason_in (Some v) = Some v.value

-- reasonCode, certificateIssuer and invalidityDate (5.3.1 to 5.3.3)
abbrev pub is_processed_in_entry : List ℕ → Bool
is_processed_in_entry o = pointwise nat_eq o (id_ce 21) || (pointwise nat_eq o (id_ce 29) || pointwise nat_eq o (id_ce 24))

abbrev pub is_unknown_in_entry : Extension → Bool
is_unknown_in_entry e = extension.critical e && not (is_processed_in_entry (identifier.octets_of (extension.extn_id e)))

abbrev pub has_unknown_in_entry : List Extension → Bool
has_unknown_in_entry = list_any is_unknown_in_entry

-- cRLNumber, deltaCRLIndicator, issuingDistributionPoint and authorityKeyIdentifier (5.2.3 to 5.2.5, 5.2.1)
abbrev pub is_processed_in_list : List ℕ → Bool
is_processed_in_list o = pointwise nat_eq o (id_ce 20) || (pointwise nat_eq o (id_ce 27) || (pointwise nat_eq o (id_ce 28) || pointwise nat_eq o (id_ce 35)))

abbrev pub is_unknown_in_list : Extension → Bool
is_unknown_in_list e = extension.critical e && not (is_processed_in_list (identifier.octets_of (extension.extn_id e)))

abbrev pub has_unknown_in_list : List Extension → Bool
has_unknown_in_list = list_any is_unknown_in_list

-- an entry with these extensions
pub record ShowsEntryFacts (v : RevokedCertificate) (listed : List Extension) (e : EntryFacts) : Type 0 where
  pub serial : e.serial.now ≡ number.contents_of (entry.user_certificate v)
  pub date : e.date ≡ entry.revocation_date v
  pub reason : Option (Enumerated CrlReason)
  pub is_reason : ShowsValue reason_form.ghosts.FORM 21 listed reason
  pub reason_is : e.reason ≡ reason_in reason
  pub issuers : Option GeneralNames
  pub are_issuers : ShowsValue names_form.ghosts.FORM 29 listed issuers
  pub issuers_are : ShowsEachName issuers e.issuers
  pub unknown : e.has_unknown_critical ≡ has_unknown_in_entry listed

-- what is kept of an entry: its facts, or that it shows none
abbrev pub IsEntry : RevokedCertificate → List Extension → Entry → Type 0
IsEntry v listed (kept.Read e) = ShowsEntryFacts v listed e
IsEntry v listed kept.Unread = (e : EntryFacts) → ShowsEntryFacts v listed e → ⊥

abbrev pub ShowsEntry : RevokedCertificate → Entry → Type 0
ShowsEntry v e = (listed : List Extension) → AreListed extension_form.ghosts.FORM (entry.crl_entry_extensions v) listed → IsEntry v listed e

abbrev pub ShowsEachEntry : Option (ListRef RevokedCertificate) → List Entry → Type 0
ShowsEachEntry None entries = entries ≡ []
ShowsEachEntry (Some v) entries = AreShown entry_form.ghosts.FORM ShowsEntry (list.octets_of v) entries

-- a list, as it is kept
pub record KeepsList (l : TbsCertList) (n b : Option UintRef) (p : Option IssuingDistributionPoint) (is_unknown : Bool) (f : ListFacts) : Type 0 where
  pub issuer : ShowsParts (tbs_list.issuer l) f.issuer.items
  pub this_update : f.this_update ≡ tbs_list.this_update l
  pub next_update : f.next_update ≡ tbs_list.next_update l
  pub number : f.number ≡ n
  pub base : f.base ≡ b
  pub scope : ShowsScope p f.scope
  pub entries : ShowsEachEntry (tbs_list.revoked_certificates l) f.entries.items
  pub unknown : f.has_unknown_critical ≡ is_unknown

-- the facts that a list with these extensions shows: cRLNumber (5.2.3), deltaCRLIndicator (5.2.4), issuingDistributionPoint (5.2.5)
pub record ShowsList (l : TbsCertList) (listed : List Extension) (f : ListFacts) : Type 0 where
  pub number : Option UintRef
  pub is_number : ShowsValue number_form.ghosts.FORM 20 listed number
  pub base : Option UintRef
  pub is_base : ShowsValue number_form.ghosts.FORM 27 listed base
  pub scope : Option IssuingDistributionPoint
  pub is_scope : ShowsValue point_form.ghosts.FORM 28 listed scope
  pub kept : KeepsList l number base scope (has_unknown_in_list listed) f
