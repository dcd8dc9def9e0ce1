-- The encoding of an item determines what it shows.
use Rattle.std.specs.Prelude.{◌≡◌, ℕ, List, Bool, true, false, ◌&&◌, Option, Some, None}
use Rattle.std.specs.Bool.{beq}
use Rattle.std.specs.Cmp.Lexicographic.{bytes_decides}
use Rattle.std.proofs.Common.{IsTrue, [], ◌++◌, length, refl, sym, ap, subst, ◌∙◌, arith}
use Rattle.der_tlv.specs.declared.tag.Tag.TheVariants as tags
use Rattle.der_tlv.specs.HeaderOctets.{tlv}
use Rattle.der_tlv.specs.HeaderLaws.{same_identifier-test, tlv-injective, tlv-unique}
use Rattle.der_tlv.specs.Identifier.{same_identifier}
use Rattle.std.proofs.lemmas.List.{length-append}
use Rattle.der_elem.specs.OrderLaws.{length-tlv-positive}
use Rattle.der_elem.specs.declared.form.Form as form
use Rattle.der_fields.specs.Defaults.{first_tag_unless}
use Rattle.der_fields.specs.FieldLists.{Distinguished}
use Rattle.der_opaque.specs.AnyRef.{contents_of, tag_of}
use Rattle.der_opaque.specs.ObjectIdentifierRef as identifier
use Rattle.der_opaque.specs.OctetStringRef as string
use Rattle.der_opaque.specs.contracts.any_ref.AnyRefEncodingEq.TheImpl.Laws as any_laws
use Rattle.der_lists.specs.Items.{AreItems}
use Rattle.der_modules.specs.Asn1.{optional}
use Rattle.der_numbers.specs.IntRef.{contents_of as contents_of_number}
use Rattle.der_pkix.specs.Certificate.Extension as extension
use Rattle.der_pkix.specs.Crl.RevokedCertificate as entry
use Rattle.der_pkix.specs.Name.AttributeTypeAndValue as attribute
use Rattle.der_pkix.specs.declared.certificate.extension.Extension.{Extension}
use Rattle.der_pkix.specs.declared.certificate.extensions.Extensions.{Extensions}
use Rattle.der_pkix.specs.declared.crl.revoked_certificate.RevokedCertificate.{RevokedCertificate}
use Rattle.der_pkix.specs.declared.name.attribute_type_and_value.AttributeTypeAndValue.{AttributeTypeAndValue}
use Rattle.der_pkix.specs.declared.name.relative_distinguished_name.RelativeDistinguishedName.{RelativeDistinguishedName}
use Rattle.der_pkix.specs.contracts.certificate.extension.ExtensionContentsEq.TheImpl.Laws as extension_laws
use Rattle.der_pkix.specs.contracts.certificate.extension.ExtensionFormValue.TheImpl as extension_form
use Rattle.der_pkix.specs.contracts.certificate.extensions.ExtensionsFormValue.TheImpl as extensions_form
use Rattle.der_pkix.specs.contracts.certificate.time.TimeTagged.TheImpl.Laws as time_laws
use Rattle.der_pkix.specs.contracts.crl.revoked_certificate.RevokedCertificateFormValue.TheImpl as entry_form
use Rattle.der_pkix.specs.contracts.name.attribute_type_and_value.AttributeTypeAndValueContentsEq.TheImpl.Laws as attribute_laws
use Rattle.der_pkix.specs.contracts.name.attribute_type_and_value.AttributeTypeAndValueFormValue.TheImpl as attribute_form
use Rattle.der_pkix.specs.contracts.name.relative_distinguished_name.RelativeDistinguishedNameFormValue.TheImpl as part_form
use Rattle.der_verify.specs.Names.{AreAttributes}
use Rattle.der_verify.specs.Rfc5280Lists.{EntryShows, ShowsExtensions}

-- two parts of a name with the same encoding have the same attributes
pub same_attributes : (A : form.Ghosts AttributeTypeAndValue) (v w : RelativeDistinguishedName) (attributes : List AttributeTypeAndValue) → tlv tags.Set (part_form.ghosts.value.contents v) ≡ tlv tags.Set (part_form.ghosts.value.contents w) → AreAttributes A v attributes → AreAttributes A w attributes
same_attributes A v w attributes e a =
    subst (λ octets. AreItems A octets attributes) (tlv-injective tags.Set tags.Set (part_form.ghosts.value.contents v) (part_form.ghosts.value.contents w) e).1 a

both : (a b : Bool) → IsTrue (a && b) → IsTrue a × IsTrue b
both true true i = (refl, refl)
both true false i = absurd (cc)
both false b i = absurd (cc)

same_flag : (b c : Bool) → IsTrue (beq b c) → b ≡ c
same_flag true true i = refl
same_flag true false i = absurd (cc)
same_flag false true i = absurd (cc)
same_flag false false i = refl

-- the tested fields of two attributes are equal
pub record SameFields (v w : AttributeTypeAndValue) : Type 0 where
  pub type_ : identifier.octets_of (attribute.type_ v) ≡ identifier.octets_of (attribute.type_ w)
  pub tag : tag_of (attribute.value v) ≡ tag_of (attribute.value w)
  pub contents : contents_of (attribute.value v) ≡ contents_of (attribute.value w)

comparable_attributes : (v w : AttributeTypeAndValue) → attribute_form.ghosts.value.comparable v w
comparable_attributes v w = (tt, (tt, tt, tt, tt), tt, tt)

pub same_fields : (v w : AttributeTypeAndValue) → tlv tags.Sequence (attribute_form.ghosts.value.contents v) ≡ tlv tags.Sequence (attribute_form.ghosts.value.contents w) → SameFields v w
same_fields v w e =
    let equal = (attribute_laws.contents_eq-law v w (comparable_attributes v w)).1 (tlv-injective tags.Sequence tags.Sequence (attribute_form.ghosts.value.contents v) (attribute_form.ghosts.value.contents w) e).1 in
    let parts = both _ _ equal in
    let type_ = (bytes_decides (identifier.octets_of (attribute.type_ v)) (identifier.octets_of (attribute.type_ w))).0 parts.0 in
    let value = (any_laws.encoding_eq-law (attribute.value v) (attribute.value w) tt).0 (both _ _ parts.1).0 in
    let told = tlv-injective (tag_of (attribute.value v)) (tag_of (attribute.value w)) (contents_of (attribute.value v)) (contents_of (attribute.value w)) value in
    record { type_ = type_; tag = told.0; contents = told.1 }

-- the tested fields of two extensions are equal
pub record SameExtension (v w : Extension) : Type 0 where
  pub identifier : identifier.octets_of (extension.extn_id v) ≡ identifier.octets_of (extension.extn_id w)
  pub critical : extension.critical v ≡ extension.critical w
  pub value : string.octets_of (extension.extn_value v) ≡ string.octets_of (extension.extn_value w)

-- an absent `critical` is distinguished from the OCTET STRING after it
critical_told : (is_default : Bool) → Distinguished (λ t. same_identifier t tags.Boolean) (first_tag_unless is_default (Some tags.Boolean)) (Some tags.OctetString)
critical_told true = sym (same_identifier-test false tags.OctetString tags.Boolean (λ i. absurd (cc), λ e. absurd (cc)))
critical_told false = tt

comparable_extensions : (v w : Extension) → extension_form.ghosts.value.comparable v w
comparable_extensions v w = (tt, (tt, (tt, tt, tt, tt), critical_told _, critical_told _), tt, tt)

pub same_extension : (v w : Extension) → tlv tags.Sequence (extension_form.ghosts.value.contents v) ≡ tlv tags.Sequence (extension_form.ghosts.value.contents w) → SameExtension v w
same_extension v w e =
    let equal = (extension_laws.contents_eq-law v w (comparable_extensions v w)).1 (tlv-injective tags.Sequence tags.Sequence (extension_form.ghosts.value.contents v) (extension_form.ghosts.value.contents w) e).1 in
    let first = both _ _ equal in
    let second = both _ _ first.1 in
    let third = both _ _ second.1 in
    record {
      identifier = (bytes_decides (identifier.octets_of (extension.extn_id v)) (identifier.octets_of (extension.extn_id w))).0 first.0;
      critical = same_flag (extension.critical v) (extension.critical w) second.0;
      value = (bytes_decides (string.octets_of (extension.extn_value v)) (string.octets_of (extension.extn_value w))).0 third.0;
    }

-- the octets of extensions that may be absent
abbrev octets_of_optional : Option Extensions → List ℕ
octets_of_optional p = optional (λ x. tlv tags.Sequence (extensions_form.ghosts.value.contents x)) p ++ []

-- no encoding is empty
not_empty : (o : List ℕ) → [] ≡ tlv tags.Sequence o ++ [] → ⊥
not_empty o e = let n = length-tlv-positive tags.Sequence o in let l = ap length e in let k = length-append (tlv tags.Sequence o) [] in absurd (omega (arith, n, l, k))

-- extensions with the same octets show the same value
same_optional : (F : form.Ghosts Extension) (p q : Option Extensions) (shown : Option (List Extension)) → octets_of_optional p ≡ octets_of_optional q → ShowsExtensions F p shown → ShowsExtensions F q shown
same_optional F None None shown e s = s
same_optional F (Some x) (Some y) None e s = absurd s
same_optional F (Some x) (Some y) (Some items) e s =
    subst (λ octets. AreItems F octets items) (tlv-unique tags.Sequence tags.Sequence (extensions_form.ghosts.value.contents x) (extensions_form.ghosts.value.contents y) [] [] e).1 s
same_optional F None (Some y) shown e s = absurd (not_empty (extensions_form.ghosts.value.contents y) e)
same_optional F (Some x) None shown e s = absurd (not_empty (extensions_form.ghosts.value.contents x) (sym e))

-- the extensions after the serial number and the date
behind : (v w : RevokedCertificate) → entry_form.ghosts.value.contents v ≡ entry_form.ghosts.value.contents w → octets_of_optional (entry.crl_entry_extensions v) ≡ octets_of_optional (entry.crl_entry_extensions w)
behind v w e =
    let x = octets_of_optional (entry.crl_entry_extensions v) in
    let y = octets_of_optional (entry.crl_entry_extensions w) in
    let s = entry.revocation_date v in
    let t = entry.revocation_date w in
    let dates = (tlv-unique tags.Integer tags.Integer (contents_of_number (entry.user_certificate v)) (contents_of_number (entry.user_certificate w)) _ _ e).2 in
    let told = sym (ap (λ o. o ++ x) (time_laws.encoding_is-law s)) ∙ dates ∙ ap (λ o. o ++ y) (time_laws.encoding_is-law t) in
    (tlv-unique _ _ _ _ x y told).2

-- two entries of a list with the same encoding show the same extensions
pub same_extensions : (F : form.Ghosts Extension) (v w : RevokedCertificate) (shown : Option (List Extension)) → tlv tags.Sequence (entry_form.ghosts.value.contents v) ≡ tlv tags.Sequence (entry_form.ghosts.value.contents w) → EntryShows F v shown → EntryShows F w shown
same_extensions F v w shown e s =
    same_optional F (entry.crl_entry_extensions v) (entry.crl_entry_extensions w) shown (behind v w (tlv-injective tags.Sequence tags.Sequence (entry_form.ghosts.value.contents v) (entry_form.ghosts.value.contents w) e).1) s
