-- What section 6.1 of RFC 5280 takes from a certificate: the facts that its octets show.
use Rattle.std.specs.Prelude.{◌≡◌, ℕ, ◌==◌, nat_eq, List, [], ◌∷◌, Bool, false, not, ◌&&◌, ◌||◌, Option, Some, None, is_some, option_map, Result, Ok, Err, Vec}
use Rattle.std.specs.declared.alloc.Global.{Global}
use Rattle.std.specs.Cmp.Lexicographic.{pointwise}
use Rattle.std.specs.List.{list_any}
use Rattle.der_tlv.specs.declared.encoding_rules.EncodingRules.TheVariants.{Der}
use Rattle.der_elem.specs.declared.form.Form as form
use Rattle.der_nest.specs.SequenceRef as sequence
use Rattle.der_opaque.specs.ObjectIdentifierRef as identifier
use Rattle.der_opaque.specs.OctetStringRef as string
use Rattle.der_ascii.specs.CharacterStringRef as text
use Rattle.der_bits.specs.NamedBitsRef as bits
use Rattle.der_bits.specs.BitString.{bit}
use Rattle.der_bits.specs.declared.named_bits.NamedBitsRef.{NamedBitsRef}
use Rattle.der_numbers.specs.declared.uint_ref.UintRef.{UintRef}
use Rattle.der_lists.specs.ListRef as list
use Rattle.der_lists.specs.SetRef as set
use Rattle.der_pkix.specs.declared.certificate.certificate.Certificate.{Certificate}
use Rattle.der_pkix.specs.declared.certificate.extension.Extension.{Extension}
use Rattle.der_pkix.specs.declared.name.rdn_sequence.RdnSequence.{RdnSequence}
use Rattle.der_pkix.specs.declared.name.relative_distinguished_name.RelativeDistinguishedName.{RelativeDistinguishedName}
use Rattle.der_pkix.specs.Certificate.Certificate as certificate
use Rattle.der_pkix.specs.Certificate.Extension as extension
use Rattle.der_pkix.specs.Certificate.TbsCertificate as tbs
use Rattle.der_pkix.specs.Name.RdnSequence as name
use Rattle.der_pkix.specs.Name.RelativeDistinguishedName as part
use Rattle.der_extensions.specs.declared.extension.basic_constraints.BasicConstraints.{BasicConstraints}
use Rattle.der_extensions.specs.declared.extension.certificate_policies.CertificatePolicies.{CertificatePolicies}
use Rattle.der_extensions.specs.declared.extension.general_name.GeneralName.{GeneralName}
use Rattle.der_extensions.specs.declared.extension.general_name.GeneralName.TheVariants as of
use Rattle.der_extensions.specs.declared.extension.general_names.GeneralNames.{GeneralNames}
use Rattle.der_extensions.specs.declared.extension.general_subtree.GeneralSubtree.{GeneralSubtree}
use Rattle.der_extensions.specs.declared.extension.general_subtrees.GeneralSubtrees.{GeneralSubtrees}
use Rattle.der_extensions.specs.declared.extension.name_constraints.NameConstraints.{NameConstraints}
use Rattle.der_extensions.specs.declared.extension.policy_constraints.PolicyConstraints.{PolicyConstraints}
use Rattle.der_extensions.specs.declared.extension.policy_information.PolicyInformation.{PolicyInformation}
use Rattle.der_extensions.specs.declared.extension.policy_mapping.PolicyMapping.{PolicyMapping}
use Rattle.der_extensions.specs.declared.extension.policy_mappings.PolicyMappings.{PolicyMappings}
use Rattle.der_extensions.specs.Extension.BasicConstraints as basic
use Rattle.der_extensions.specs.Extension.CertificatePolicies as listed_policies
use Rattle.der_extensions.specs.Extension.GeneralNames as listed_names
use Rattle.der_extensions.specs.Extension.GeneralSubtree as subtree
use Rattle.der_extensions.specs.Extension.GeneralSubtrees as listed_subtrees
use Rattle.der_extensions.specs.Extension.NameConstraints as constraints
use Rattle.der_extensions.specs.Extension.PolicyConstraints as policy
use Rattle.der_extensions.specs.Extension.PolicyInformation as information
use Rattle.der_extensions.specs.Extension.PolicyMapping as mapping
use Rattle.der_extensions.specs.Extension.PolicyMappings as listed_mappings
use Rattle.der_verify.specs.Extensions.{with_identifier}
use Rattle.der_verify.specs.Rfc5280.{id_ce}
use Rattle.der_verify.specs.Shown.{AreShown}
use Rattle.der_path.specs.contracts.meanings.MeaningsMeantAttributeTypeAndValue.TheImpl as attribute_form
use Rattle.der_path.specs.contracts.meanings.MeaningsMeantBasicConstraints.TheImpl as basic_form
use Rattle.der_path.specs.contracts.meanings.MeaningsMeantCertificatePolicies.TheImpl as policies_form
use Rattle.der_path.specs.contracts.meanings.MeaningsMeantGeneralName.TheImpl as name_form
use Rattle.der_path.specs.contracts.meanings.MeaningsMeantGeneralNames.TheImpl as names_form
use Rattle.der_path.specs.contracts.meanings.MeaningsMeantGeneralSubtree.TheImpl as subtree_form
use Rattle.der_path.specs.contracts.meanings.MeaningsMeantNameConstraints.TheImpl as constraints_form
use Rattle.der_path.specs.contracts.meanings.MeaningsMeantNamedBitsRef.TheImpl as usage_form
use Rattle.der_path.specs.contracts.meanings.MeaningsMeantPolicyConstraints.TheImpl as policy_form
use Rattle.der_path.specs.contracts.meanings.MeaningsMeantPolicyInformation.TheImpl as information_form
use Rattle.der_path.specs.contracts.meanings.MeaningsMeantPolicyMapping.TheImpl as mapping_form
use Rattle.der_path.specs.contracts.meanings.MeaningsMeantPolicyMappings.TheImpl as mappings_form
use Rattle.der_path.specs.contracts.meanings.MeaningsMeantRelativeDistinguishedName.TheImpl as part_form
use Rattle.der_path.specs.contracts.meanings.MeaningsMeantUintRef.TheImpl as number_form
use Rattle.der_path.specs.declared.facts.Facts.{Facts}
use Rattle.der_path.specs.declared.facts.NameFacts.{NameFacts}
use Rattle.der_path.specs.declared.facts.NoFacts.{NoFacts}
use Rattle.der_path.specs.declared.facts.NoFacts.TheVariants as none
use Rattle.der_path.specs.declared.facts.PolicyFacts.{PolicyFacts}
use Rattle.der_path.specs.declared.facts.Uses.{Uses}
use Rattle.der_path.specs.declared.names.Part.{Part}
use Rattle.der_path.specs.declared.names.PathName.{PathName}
use Rattle.der_path.specs.declared.names.PathName.TheVariants as kept
use Rattle.der_path.specs.declared.names.Subtree.{Subtree}
use Rattle.der_path.specs.declared.policy.Mapping.{Mapping}
use Rattle.der_path.specs.declared.policy.Policy.{Policy}

-- the attributes of a part of a name, and the parts of a name
abbrev pub ShowsPart : RelativeDistinguishedName → Part → Type 0
ShowsPart r p = AreShown attribute_form.ghosts.FORM (λ v x. x ≡ v) (set.octets_of (part.items_of r)) p.attributes.items

abbrev pub ShowsParts : RdnSequence → List Part → Type 0
ShowsParts n parts = AreShown part_form.ghosts.FORM ShowsPart (list.octets_of (name.items_of n)) parts

-- a GeneralName
abbrev pub IsDirectory : RdnSequence → PathName → Type 0
IsDirectory n (kept.Directory parts) = ShowsParts n parts.items
IsDirectory n (kept.Octets kind octets) = ⊥

abbrev pub HasOctets : ℕ → List ℕ → PathName → Type 0
HasOctets number o (kept.Directory parts) = ⊥
HasOctets number o (kept.Octets kind octets) = (kind ≡ number) × (octets.now ≡ o)

abbrev pub ShowsName : GeneralName → PathName → Type 0
ShowsName (of.OtherName v) p = HasOctets 0 [] p
ShowsName (of.Rfc822Name v) p = HasOctets 1 (text.octets_of v.value) p
ShowsName (of.DnsName v) p = HasOctets 2 (text.octets_of v.value) p
ShowsName (of.X400Address v) p = HasOctets 3 (sequence.octets_of v.value) p
ShowsName (of.DirectoryName v) p = IsDirectory v.fields.first p
ShowsName (of.EdiPartyName v) p = HasOctets 5 (sequence.octets_of v.value) p
ShowsName (of.UniformResourceIdentifier v) p = HasOctets 6 (text.octets_of v.value) p
ShowsName (of.IpAddress v) p = HasOctets 7 (string.octets_of v.value) p
ShowsName (of.RegisteredId v) p = HasOctets 8 (identifier.octets_of v.value) p

-- a GeneralSubtree
pub record ShowsSubtree (v : GeneralSubtree) (s : Subtree) : Type 0 where
  pub base : ShowsName (subtree.base v) s.base
  pub plain : s.is_plain ≡ (subtree.minimum v == 0 && not (is_some (subtree.maximum v)))

abbrev pub ShowsEachName : Option GeneralNames → Option (Vec PathName Global) → Type 0
ShowsEachName None None = Unit {0}
ShowsEachName (Some v) (Some names) = AreShown name_form.ghosts.FORM ShowsName (list.octets_of (listed_names.items_of v)) names.items
ShowsEachName _ _ = ⊥

abbrev pub ShowsEachSubtree : Option GeneralSubtrees → Option (Vec Subtree Global) → Type 0
ShowsEachSubtree None None = Unit {0}
ShowsEachSubtree (Some v) (Some subtrees) = AreShown subtree_form.ghosts.FORM ShowsSubtree (list.octets_of (listed_subtrees.items_of v)) subtrees.items
ShowsEachSubtree _ _ = ⊥

-- policies and mappings, by the contents octets of the identifiers
abbrev pub ShowsPolicy : PolicyInformation → Policy → Type 0
ShowsPolicy v p = p.octets.now ≡ identifier.octets_of (information.policy_identifier v)

pub record ShowsMapping (v : PolicyMapping) (m : Mapping) : Type 0 where
  pub issuer : m.issuer.octets.now ≡ identifier.octets_of (mapping.issuer_domain_policy v)
  pub subject : m.subject.octets.now ≡ identifier.octets_of (mapping.subject_domain_policy v)

abbrev pub ShowsEachPolicy : Option CertificatePolicies → Option (Vec Policy Global) → Type 0
ShowsEachPolicy None None = Unit {0}
ShowsEachPolicy (Some v) (Some policies) = AreShown information_form.ghosts.FORM ShowsPolicy (list.octets_of (listed_policies.items_of v)) policies.items
ShowsEachPolicy _ _ = ⊥

abbrev pub ShowsEachMapping : Option PolicyMappings → Option (Vec Mapping Global) → Type 0
ShowsEachMapping None None = Unit {0}
ShowsEachMapping (Some v) (Some mappings) = AreShown mapping_form.ghosts.FORM ShowsMapping (list.octets_of (listed_mappings.items_of v)) mappings.items
ShowsEachMapping _ _ = ⊥

-- the value of the only one of these extensions, if there is one
abbrev pub ShowsOne : {T : Type 0} → form.Ghosts T → List Extension → Option T → Type 0
ShowsOne F [] None = Unit {0}
ShowsOne F (e ∷ []) (Some v) = F.accepts Der v (string.octets_of (extension.extn_value e))
ShowsOne F _ _ = ⊥

-- the value of the extension of section 4.2.1 with this number, if it is there
abbrev pub ShowsValue : {T : Type 0} → form.Ghosts T → ℕ → List Extension → Option T → Type 0
ShowsValue F n listed v = ShowsOne F (with_identifier (id_ce n) listed) v

abbrev pub is_ca : Option BasicConstraints → Bool
is_ca None = false
is_ca (Some v) = basic.ca v

abbrev pub path_length : Option BasicConstraints → Option UintRef
path_length None = None
path_length (Some v) = basic.path_len_constraint v

abbrev pub key_cert_sign : Option NamedBitsRef → Option Bool
key_cert_sign usage = option_map (λ u. bit (bits.contents_of u) 5) usage

abbrev pub permitted_in : Option NameConstraints → Option GeneralSubtrees
permitted_in None = None
permitted_in (Some v) = constraints.permitted_subtrees v

abbrev pub excluded_in : Option NameConstraints → Option GeneralSubtrees
excluded_in None = None
excluded_in (Some v) = constraints.excluded_subtrees v

abbrev pub explicit_in : Option PolicyConstraints → Option UintRef
explicit_in None = None
explicit_in (Some v) = policy.require_explicit_policy v

abbrev pub mapping_in : Option PolicyConstraints → Option UintRef
mapping_in None = None
mapping_in (Some v) = policy.inhibit_policy_mapping v

-- basicConstraints (4.2.1.9) and keyUsage (4.2.1.3)
pub record ShowsUses (listed : List Extension) (u : Uses) : Type 0 where
  pub constraints : Option BasicConstraints
  pub are_constraints : ShowsValue basic_form.ghosts.FORM 19 listed constraints
  pub is_ca : u.is_ca ≡ is_ca constraints
  pub path_length : u.path_length ≡ path_length constraints
  pub usage : Option NamedBitsRef
  pub is_usage : ShowsValue usage_form.ghosts.FORM 15 listed usage
  pub key_cert_sign : u.key_cert_sign ≡ key_cert_sign usage

-- names and subtrees, as they are kept
pub record KeepsNames (names : Option GeneralNames) (constraints : Option NameConstraints) (n : NameFacts) : Type 0 where
  pub alternative_names : ShowsEachName names n.alternative_names
  pub permitted : ShowsEachSubtree (permitted_in constraints) n.permitted
  pub excluded : ShowsEachSubtree (excluded_in constraints) n.excluded

-- policies and mappings, as they are kept
pub record KeepsPolicies (information : Option CertificatePolicies) (pairs : Option PolicyMappings) (constraints : Option PolicyConstraints) (inhibit : Option UintRef) (p : PolicyFacts) : Type 0 where
  pub policies : ShowsEachPolicy information p.policies
  pub mappings : ShowsEachMapping pairs p.mappings
  pub explicit_policy : p.explicit_policy ≡ explicit_in constraints
  pub policy_mapping : p.policy_mapping ≡ mapping_in constraints
  pub inhibit_any_policy : p.inhibit_any_policy ≡ inhibit

-- subjectAltName (4.2.1.6) and nameConstraints (4.2.1.10)
pub record ShowsNames (listed : List Extension) (n : NameFacts) : Type 0 where
  pub names : Option GeneralNames
  pub are_names : ShowsValue names_form.ghosts.FORM 17 listed names
  pub constraints : Option NameConstraints
  pub are_constraints : ShowsValue constraints_form.ghosts.FORM 30 listed constraints
  pub kept : KeepsNames names constraints n

-- certificatePolicies (4.2.1.4), policyMappings (4.2.1.5), policyConstraints (4.2.1.11) and inhibitAnyPolicy (4.2.1.14)
pub record ShowsPolicies (listed : List Extension) (p : PolicyFacts) : Type 0 where
  pub policies : Option CertificatePolicies
  pub are_policies : ShowsValue policies_form.ghosts.FORM 32 listed policies
  pub mappings : Option PolicyMappings
  pub are_mappings : ShowsValue mappings_form.ghosts.FORM 33 listed mappings
  pub constraints : Option PolicyConstraints
  pub are_constraints : ShowsValue policy_form.ghosts.FORM 36 listed constraints
  pub inhibit : Option UintRef
  pub is_inhibit : ShowsValue number_form.ghosts.FORM 54 listed inhibit
  pub kept : KeepsPolicies policies mappings constraints inhibit p

-- keyUsage, subjectAltName, basicConstraints, nameConstraints, certificatePolicies, policyMappings, policyConstraints, extKeyUsage and inhibitAnyPolicy: those that section 4.2 has applications recognize, and that of 6.1.4 (a)
abbrev pub is_processed : List ℕ → Bool
is_processed o = pointwise nat_eq o (id_ce 15) || (pointwise nat_eq o (id_ce 17) || (pointwise nat_eq o (id_ce 19) || (pointwise nat_eq o (id_ce 30) || (pointwise nat_eq o (id_ce 32) || (pointwise nat_eq o (id_ce 33) || (pointwise nat_eq o (id_ce 36) || (pointwise nat_eq o (id_ce 37) || pointwise nat_eq o (id_ce 54))))))))

abbrev pub is_unknown_critical : Extension → Bool
is_unknown_critical e = extension.critical e && not (is_processed (identifier.octets_of (extension.extn_id e)))

abbrev pub has_unknown_critical : List Extension → Bool
has_unknown_critical = list_any is_unknown_critical

-- the facts that a certificate with these extensions shows
pub record ShowsFacts (c : Certificate) (listed : List Extension) (f : Facts) : Type 0 where
  pub issuer : ShowsParts (tbs.issuer (certificate.tbs_certificate c)) f.issuer.items
  pub subject : ShowsParts (tbs.subject (certificate.tbs_certificate c)) f.subject.items
  pub validity : f.validity ≡ tbs.validity (certificate.tbs_certificate c)
  pub version : f.version ≡ tbs.version (certificate.tbs_certificate c)
  pub uses : ShowsUses listed f.uses
  pub names : ShowsNames listed f.names
  pub policies : ShowsPolicies listed f.policies
  pub unknown : f.has_unknown_critical ≡ has_unknown_critical listed

-- facts are read, or there are none, or memory runs out
abbrev pub Reads : {X : Type 0} → (X → Type 0) → Result X NoFacts → Type 0
Reads Shows (Ok x) = Shows x
Reads {X} Shows (Err none.Unread) = (x : X) → Shows x → ⊥
Reads Shows (Err none.Memory) = Unit {0}
