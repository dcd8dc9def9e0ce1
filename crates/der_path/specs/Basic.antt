-- The steps of RFC 5280 section 6.1.3 but those of policies.
use Rattle.std.specs.Prelude.{ℕ, ◌==◌, nat_eq, List, [], ◌∷◌, length, Bool, true, false, not, ◌&&◌, ◌||◌, if◌then◌else◌, Option, Some, None, Vec}
use Rattle.std.specs.declared.alloc.Global.{Global}
use Rattle.std.specs.Cmp.Lexicographic.{pointwise}
use Rattle.std.specs.List.{list_all, list_any}
use Rattle.der_opaque.specs.AnyRef.{contents_of}
use Rattle.der_opaque.specs.ObjectIdentifierRef.{octets_of}
use Rattle.der_pkix.specs.declared.name.attribute_type_and_value.AttributeTypeAndValue.{AttributeTypeAndValue}
use Rattle.der_pkix.specs.Name.AttributeTypeAndValue as attribute
use Rattle.der_verify.specs.Time.{is_valid_at}
use Rattle.der_path.specs.declared.facts.Facts.{Facts}
use Rattle.der_path.specs.declared.facts.NameFacts.{NameFacts}
use Rattle.der_path.specs.declared.names.Part.{Part}
use Rattle.der_path.specs.declared.names.PathName.{PathName}
use Rattle.der_path.specs.declared.names.Subtree.{Subtree}
use Rattle.der_path.specs.declared.step.Step.{Step}
use Rattle.der_path.specs.declared.step.Step.TheVariants as step
use Rattle.der_path.specs.Subtrees.{excludes, excludes_name, permits, permits_name, place_octets, place_parts, same_names}

-- "A certificate is self-issued if the same DN appears in the subject and issuer fields"
abbrev pub is_self_issued : Facts → Bool
is_self_issued f = same_names f.issuer.items f.subject.items

-- emailAddress, 1.2.840.113549.1.9.1
abbrev pub is_mail : AttributeTypeAndValue → Bool
is_mail a = pointwise nat_eq (octets_of (attribute.type_ a)) (42 ∷ 134 ∷ 72 ∷ 134 ∷ 247 ∷ 13 ∷ 1 ∷ 9 ∷ 1 ∷ [])

-- "When the subject alternative name extension is not present, but the subject distinguished name contains an attribute of type emailAddress, the constraint MUST be applied to the attribute" (4.2.1.10)
abbrev pub permitted_value : List Subtree → AttributeTypeAndValue → Bool
permitted_value subtrees a = permits (place_octets 1 (contents_of (attribute.value a))) subtrees

abbrev pub excluded_value : List Subtree → AttributeTypeAndValue → Bool
excluded_value subtrees a = excludes (place_octets 1 (contents_of (attribute.value a))) subtrees

abbrev pub permitted_mail_of : List Subtree → Part → Bool
permitted_mail_of subtrees p = list_all (λ (a : AttributeTypeAndValue). not (is_mail a) || permitted_value subtrees a) p.attributes.items

abbrev pub excluded_mail_of : List Subtree → Part → Bool
excluded_mail_of subtrees p = list_any (λ (a : AttributeTypeAndValue). is_mail a && excluded_value subtrees a) p.attributes.items

abbrev pub permitted_mail : List Subtree → List Part → Bool
permitted_mail subtrees subject = list_all (permitted_mail_of subtrees) subject

abbrev pub excluded_mail : List Subtree → List Part → Bool
excluded_mail subtrees subject = list_any (excluded_mail_of subtrees) subject

abbrev pub permitted_names : List Subtree → List Part → Option (Vec PathName Global) → Bool
permitted_names subtrees subject None = permitted_mail subtrees subject
permitted_names subtrees subject (Some names) = list_all (permits_name subtrees) names.items

abbrev pub excluded_names : List Subtree → List Part → Option (Vec PathName Global) → Bool
excluded_names subtrees subject None = excluded_mail subtrees subject
excluded_names subtrees subject (Some names) = list_any (excludes_name subtrees) names.items

abbrev pub permitted_subject : List Subtree → List Part → Bool
permitted_subject subtrees subject = length subject == 0 || permits (place_parts subject) subtrees

abbrev pub excluded_subject : List Subtree → List Part → Bool
excluded_subject subtrees subject = not (length subject == 0) && excludes (place_parts subject) subtrees

-- the subject, if it is not empty, and the alternative names
abbrev pub permitted_by : List Subtree → Facts → Bool
permitted_by subtrees f = permitted_subject subtrees f.subject.items && permitted_names subtrees f.subject.items f.names.alternative_names

abbrev pub excluded_by : List Subtree → Facts → Bool
excluded_by subtrees f = excluded_subject subtrees f.subject.items || excluded_names subtrees f.subject.items f.names.alternative_names

abbrev pub permitted_if : Option (Vec Subtree Global) → Facts → Bool
permitted_if None f = true
permitted_if (Some subtrees) f = permitted_by subtrees.items f

abbrev pub excluded_if : Option (Vec Subtree Global) → Facts → Bool
excluded_if None f = false
excluded_if (Some subtrees) f = excluded_by subtrees.items f

-- 6.1.3 (b) with 6.1.4 (g)(1): the intersection of the initial permitted subtrees and those of the certificates before has the names that each of them permits
abbrev pub each_permits : List Facts → Facts → Bool
each_permits before f = list_all (λ (g : Facts). permitted_if g.names.permitted f) before

abbrev pub is_permitted : NameFacts → List Facts → Facts → Bool
is_permitted initial before f = permitted_if initial.permitted f && each_permits before f

-- 6.1.3 (c) with 6.1.4 (g)(2): the union of the excluded subtrees
abbrev pub one_excludes : List Facts → Facts → Bool
one_excludes before f = list_any (λ (g : Facts). excluded_if g.names.excluded f) before

abbrev pub is_excluded : NameFacts → List Facts → Facts → Bool
is_excluded initial before f = excluded_if initial.excluded f || one_excludes before f

-- 6.1.3 (b), (c): "If certificate i is self-issued and it is not the final certificate in the path, skip this step"
abbrev pub names_fault : NameFacts → List Facts → Facts → Option Step
names_fault initial before f = if not (is_permitted initial before f) then Some step.Permitted else (if is_excluded initial before f then Some step.Excluded else None)

-- 6.1.3 (a)(2), (a)(4), (b), (c)
abbrev pub basic_fault : NameFacts → List Facts → List Part → Facts → ℕ → Bool → Option Step
basic_fault initial before issuer f moment is_last =
    if not (is_valid_at f.validity moment) then Some step.Validity
    else (if not (same_names f.issuer.items issuer) then Some step.Issuer
    else (if not is_last && is_self_issued f then None
    else names_fault initial before f))
