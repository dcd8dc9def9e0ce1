-- The distribution points of a certificate (RFC 5280 section 4.2.1.13), and which lists are of one (6.3.3 (b) and (d)).
use Rattle.std.specs.Prelude.{◌≡◌, ℕ, ◌==◌, nat_eq, List, [], ◌∷◌, ◌++◌, Bool, true, false, not, ◌&&◌, if◌then◌else◌, Option, Some, None, Vec}
use Rattle.std.specs.declared.alloc.Global.{Global}
use Rattle.std.specs.Cmp.Lexicographic.{pointwise}
use Rattle.std.specs.List.{list_any}
use Rattle.der_lists.specs.ListRef as list
use Rattle.der_pkix.specs.Certificate.TbsCertificate as tbs
use Rattle.der_pkix.specs.declared.certificate.extension.Extension.{Extension}
use Rattle.der_pkix.specs.declared.certificate.tbs_certificate.TbsCertificate.{TbsCertificate}
use Rattle.der_pkix.specs.declared.name.rdn_sequence.RdnSequence.{RdnSequence}
use Rattle.der_extensions.specs.Extension.CrlDistributionPoints as listed_points
use Rattle.der_extensions.specs.Extension.DistributionPoint as point
use Rattle.der_extensions.specs.declared.extension.crl_distribution_points.CrlDistributionPoints.{CrlDistributionPoints}
use Rattle.der_extensions.specs.declared.extension.distribution_point.DistributionPoint.{DistributionPoint}
use Rattle.der_verify.specs.Shown.{AreShown}
use Rattle.der_path.specs.contracts.meanings.MeaningsMeantCrlDistributionPoints.TheImpl as points_form
use Rattle.der_path.specs.contracts.meanings.MeaningsMeantDistributionPoint.TheImpl as point_form
use Rattle.der_path.specs.declared.list_step.ListStep.{ListStep}
use Rattle.der_path.specs.declared.list_step.ListStep.TheVariants as step
use Rattle.der_path.specs.declared.names.Part.{Part}
use Rattle.der_path.specs.declared.names.PathName.{PathName}
use Rattle.der_path.specs.declared.names.PathName.TheVariants as kept
use Rattle.der_path.specs.declared.points.Point.{Point}
use Rattle.der_path.specs.declared.reasons.Reasons.{Reasons}
use Rattle.der_path.specs.declared.revocation_facts.ListFacts.{ListFacts}
use Rattle.der_path.specs.declared.revocation_facts.PointName.{PointName}
use Rattle.der_path.specs.declared.revocation_facts.PointName.TheVariants as name
use Rattle.der_path.specs.declared.revocation_facts.Target.{Target}
use Rattle.der_path.specs.Facts.{ShowsEachName, ShowsParts, ShowsValue}
use Rattle.der_path.specs.Reasons.{met_reasons, reasons_of}
use Rattle.der_path.specs.Revocation.{is_directory_of, scope_kind_fault}
use Rattle.der_path.specs.RevocationFacts.{ShowsPointName}
use Rattle.der_path.specs.Subtrees.{same_names}

-- a DistributionPoint
pub record ShowsDistributionPoint (v : DistributionPoint) (p : Point) : Type 0 where
  pub name : ShowsPointName (point.distribution_point v) p.name
  pub reasons : p.reasons ≡ point.reasons v
  pub issuers : ShowsEachName (point.crl_issuer v) p.issuers

abbrev pub ShowsEachPoint : Option CrlDistributionPoints → List Point → Type 0
ShowsEachPoint None points = points ≡ []
ShowsEachPoint (Some v) points = AreShown point_form.ghosts.FORM ShowsDistributionPoint (list.octets_of (listed_points.items_of v)) points

-- 6.3.3: "assume a DP with both the reasons and the cRLIssuer fields omitted and a distribution point name of the certificate issuer"
pub record IsOwnPoint (issuer : RdnSequence) (p : Point) : Type 0 where
  pub parts : Vec Part Global
  pub are_parts : ShowsParts issuer parts.items
  pub names : Vec PathName Global
  pub are_names : names.items ≡ kept.Directory parts ∷ []
  pub name : p.name ≡ Some (name.Full names)
  pub reasons : p.reasons ≡ None
  pub issuers : p.issuers ≡ None

-- distribution points, as they are kept, and then that of the issuer
pub record KeepsPoints (held : Option CrlDistributionPoints) (issuer : RdnSequence) (points : List Point) : Type 0 where
  pub given : List Point
  pub are_given : ShowsEachPoint held given
  pub own : Point
  pub is_own : IsOwnPoint issuer own
  pub points_are : points ≡ given ++ own ∷ []

-- cRLDistributionPoints (4.2.1.13) of a certificate with these extensions: "For each distribution point (DP) in the certificate's CRL distribution points extension"
pub record ShowsPoints (c : TbsCertificate) (listed : List Extension) (points : List Point) : Type 0 where
  pub held : Option CrlDistributionPoints
  pub is_held : ShowsValue points_form.ghosts.FORM 31 listed held
  pub kept : KeepsPoints held (tbs.issuer c) points

-- names match by section 7.1, or by their octets; an otherName matches none
abbrev pub has_octets : ℕ → List ℕ → PathName → Bool
has_octets kind octets (kept.Directory parts) = false
has_octets kind octets (kept.Octets other_kind others) = not (kind == 0) && (kind == other_kind && pointwise nat_eq octets others.now)

abbrev pub same_general_name : PathName → PathName → Bool
same_general_name (kept.Directory parts) other = is_directory_of parts.items other
same_general_name (kept.Octets kind octets) other = has_octets kind octets.now other

abbrev pub matches_names : List PathName → PathName → Bool
matches_names others n = list_any (same_general_name n) others

-- 4.2.1.13: a name relative to an issuer is the issuer's name with the part added to it. These names, or this relative name, beside the names of an issuingDistributionPoint
abbrev pub one_matches : List PathName → List Part → PointName → Bool
one_matches names issuer (name.Full others) = list_any (matches_names others.items) names
one_matches names issuer (name.Relative part) = list_any (is_directory_of (issuer ++ part ∷ [])) names

abbrev pub relative_matches : List Part → List Part → PointName → Bool
relative_matches relative issuer (name.Full others) = list_any (is_directory_of relative) others.items
relative_matches relative issuer (name.Relative part) = same_names relative (issuer ++ part ∷ [])

-- 4.2.1.13: nameRelativeToCRLIssuer is relative to the distinguished name of cRLIssuer, else of the certificate's issuer
abbrev pub first_directory : List Part → List PathName → List Part
first_directory other [] = other
first_directory other (kept.Directory parts ∷ others) = parts.items
first_directory other (kept.Octets kind octets ∷ others) = first_directory other others

abbrev pub base_name : Option (Vec PathName Global) → List Part → List Part
base_name None issuer = issuer
base_name (Some names) issuer = first_directory issuer names.items

-- "If the distribution point name is present in the IDP CRL extension and the distribution field is omitted from the DP, then verify that one of the names in the IDP matches one of the names in the cRLIssuer field of the DP."
abbrev pub issuers_match : Option (Vec PathName Global) → List Part → PointName → Bool
issuers_match None issuer held = false
issuers_match (Some names) issuer held = one_matches names.items issuer held

abbrev pub names_match : Option PointName → Target → Point → List Part → PointName → Bool
names_match (Some (name.Full names)) t p issuer held = one_matches names.items issuer held
names_match (Some (name.Relative part)) t p issuer held = relative_matches (base_name p.issuers t.issuer.items ++ part ∷ []) issuer held
names_match None t p issuer held = issuers_match p.issuers issuer held

abbrev pub matches_point : Target → Point → List Part → PointName → Bool
matches_point t p issuer held = names_match p.name t p issuer held

abbrev pub has_name_of : Option PointName → Target → Point → List Part → Bool
has_name_of None t p issuer = true
has_name_of (Some held) t p issuer = matches_point t p issuer held

-- 6.3.3 (b)(2)(i)
abbrev pub has_point_name : Target → Point → ListFacts → Bool
has_point_name t p l = has_name_of l.scope.name t p l.issuer.items

-- 6.3.3 (b)(1): "If the DP includes cRLIssuer, then verify that the issuer field in the complete CRL matches cRLIssuer in the DP and that the complete CRL contains an issuing distribution point extension with the indirectCRL boolean asserted. Otherwise, verify that the CRL issuer matches the certificate issuer."
abbrev pub is_issued_by : Option (Vec PathName Global) → Target → ListFacts → Bool
is_issued_by None t l = same_names l.issuer.items t.issuer.items
is_issued_by (Some names) t l = list_any (is_directory_of l.issuer.items) names.items && l.scope.is_indirect

abbrev pub is_of_issuer : Target → Point → ListFacts → Bool
is_of_issuer t p l = is_issued_by p.issuers t l

-- 6.3.3 (b)(1), (2)(i) to (iv)
abbrev pub point_fault : Target → Point → ListFacts → Option ListStep
point_fault t p l =
    if not (is_of_issuer t p l) then Some step.Issuer
    else (if not (has_point_name t p l) then Some step.PointName
    else scope_kind_fault l.scope t.is_ca)

-- 6.3.3 (d): interim_reasons_mask is "the intersection of reasons in the DP and onlySomeReasons in the IDP", each of all reasons if it is absent
abbrev pub interim_reasons : Point → ListFacts → Reasons
interim_reasons p l = met_reasons (reasons_of l.scope.reasons) (reasons_of p.reasons)
