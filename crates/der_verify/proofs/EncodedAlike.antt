-- Values with one encoding have the same result in each test.
use Rattle.std.proofs.Common.{◌≡◌, ℕ, List, [], ◌∷◌, map, Bool, true, ◌&&◌, ◌||◌, not, nat_eq, if◌then◌else◌, length, ◌==◌, refl, sym, ap, ◌∙◌}
use Rattle.std.proofs.Math.Dec.{eqb-suc-suc, eqb-suc-zero, eqb-zero-suc}
use Rattle.std.specs.Bool.{beq}
use Rattle.std.specs.List.{list_all, list_any}
use Rattle.std.specs.Cmp.Lexicographic.{pointwise}
use Rattle.der_tlv.specs.declared.tag.Tag.{Tag}
use Rattle.der_tlv.specs.Identifier.{same_identifier}
use Rattle.der_opaque.specs.AnyRef.{contents_of, tag_of}
use Rattle.der_opaque.specs.ObjectIdentifierRef as identifier
use Rattle.der_opaque.specs.OctetStringRef as string
use Rattle.der_elem.specs.declared.form.Form as form
use Rattle.der_pkix.specs.Certificate.Extension as extension
use Rattle.der_pkix.specs.Name.AttributeTypeAndValue as attribute
use Rattle.der_pkix.specs.declared.certificate.extension.Extension.{Extension}
use Rattle.der_pkix.specs.declared.name.attribute_type_and_value.AttributeTypeAndValue.{AttributeTypeAndValue}
use Rattle.der_verify.specs.EqualEncodings.{SameExtension, SameFields}
use Rattle.der_verify.specs.Extensions.{has_identifier}
use Rattle.der_verify.specs.Sizes.{characters, may_be, size_holds}
use Rattle.der_verify.specs.Names.{each_matches, is_text_tag, is_visible, same_attribute}
use Rattle.der_verify.specs.Rfc5280.{is_so_critical, is_uncritical_ca, says_true}
use Rattle.der_verify.specs.Shown.{Encodes, ShowEach}
use Rattle.der_verify.specs.Text.{prepared, same_character}

pub alike_identifier : (octets : List ℕ) (v w : Extension) → SameExtension v w → has_identifier octets v ≡ has_identifier octets w
alike_identifier octets v w s = ap (λ o. pointwise nat_eq o octets) s.identifier

pub alike_critical : (octets : List ℕ) (critical : Bool) (v w : Extension) → SameExtension v w → is_so_critical octets critical v ≡ is_so_critical octets critical w
alike_critical octets critical v w s =
    ap (λ b. b && beq (extension.critical v) critical) (alike_identifier octets v w s) ∙ ap (λ c. has_identifier octets w && beq c critical) s.critical

pub alike_uncritical : (v w : Extension) → SameExtension v w → is_uncritical_ca v ≡ is_uncritical_ca w
alike_uncritical v w s =
    ap (λ b. b && (not (extension.critical v) && says_true (string.octets_of (extension.extn_value v)))) (alike_identifier (85 ∷ 29 ∷ 19 ∷ []) v w s)
    ∙ ap (λ c. has_identifier (85 ∷ 29 ∷ 19 ∷ []) w && (not c && says_true (string.octets_of (extension.extn_value v)))) s.critical
    ∙ ap (λ o. has_identifier (85 ∷ 29 ∷ 19 ∷ []) w && (not (extension.critical w) && says_true o)) s.value

-- whether two attributes match, by their octets
matches : List ℕ → Tag → List ℕ → List ℕ → Tag → List ℕ → Bool
matches type tag contents others_type others_tag others_contents =
    pointwise nat_eq type others_type && (if (is_text_tag tag && is_visible contents) && (is_text_tag others_tag && is_visible others_contents)
    then pointwise same_character (prepared contents) (prepared others_contents)
    else (same_identifier tag others_tag && pointwise nat_eq contents others_contents))

pub alike_second : (a v w : AttributeTypeAndValue) → SameFields v w → same_attribute a v ≡ same_attribute a w
unfolding matches
alike_second a v w s =
    let t = identifier.octets_of (attribute.type_ a) in
    let g = tag_of (attribute.value a) in
    let c = contents_of (attribute.value a) in
    ap (λ x. matches t g c x (tag_of (attribute.value v)) (contents_of (attribute.value v))) s.type_
    ∙ ap (λ x. matches t g c (identifier.octets_of (attribute.type_ w)) x (contents_of (attribute.value v))) s.tag
    ∙ ap (λ x. matches t g c (identifier.octets_of (attribute.type_ w)) (tag_of (attribute.value w)) x) s.contents

pub alike_first : (v w b : AttributeTypeAndValue) → SameFields v w → same_attribute v b ≡ same_attribute w b
unfolding matches
alike_first v w b s =
    let t = identifier.octets_of (attribute.type_ b) in
    let g = tag_of (attribute.value b) in
    let c = contents_of (attribute.value b) in
    ap (λ x. matches x (tag_of (attribute.value v)) (contents_of (attribute.value v)) t g c) s.type_
    ∙ ap (λ x. matches (identifier.octets_of (attribute.type_ w)) x (contents_of (attribute.value v)) t g c) s.tag
    ∙ ap (λ x. matches (identifier.octets_of (attribute.type_ w)) (tag_of (attribute.value w)) x t g c) s.contents

pub alike_any : (v w : AttributeTypeAndValue) (others : List AttributeTypeAndValue) → SameFields v w → list_any (same_attribute v) others ≡ list_any (same_attribute w) others
alike_any v w [] s = refl
alike_any v w (b ∷ bs) s = ap (λ x. x || list_any (same_attribute v) bs) (alike_first v w b s) ∙ ap (λ x. same_attribute w b || x) (alike_any v w bs s)

-- each attribute paired with all of the others
abbrev pub beside : List AttributeTypeAndValue → List AttributeTypeAndValue → List (AttributeTypeAndValue × List AttributeTypeAndValue)
beside others attributes = map (λ a. (a, others)) attributes

pub each_beside : (others attributes : List AttributeTypeAndValue) → list_all (λ (x : AttributeTypeAndValue × List AttributeTypeAndValue). list_any (same_attribute x.0) x.1) (beside others attributes) ≡ each_matches attributes others
each_beside others [] = refl
each_beside others (a ∷ rest) = ap (λ b. list_any (same_attribute a) others && b) (each_beside others rest)

pub show_beside : (F : form.Ghosts AttributeTypeAndValue) (Other : List AttributeTypeAndValue → Type 0) (others attributes : List AttributeTypeAndValue) → Other others → ShowEach (λ v (x : AttributeTypeAndValue × List AttributeTypeAndValue). Encodes F v x.0 × Other x.1) attributes (beside others attributes)
show_beside F Other others [] o = tt
show_beside F Other others (a ∷ rest) o = ((refl, o), show_beside F Other others rest o)

-- any pair passes, so two lists pass if and only if they have the same length
pub as_long : (xs ys : List AttributeTypeAndValue) → pointwise (λ (x y : AttributeTypeAndValue). true) xs ys ≡ (length xs == length ys)
as_long [] [] = refl
as_long [] (y ∷ ys) = sym (eqb-zero-suc (length ys))
as_long (x ∷ xs) [] = sym (eqb-suc-zero (length xs))
as_long (x ∷ xs) (y ∷ ys) = as_long xs ys ∙ sym (eqb-suc-suc (length xs) (length ys))

pub alike_size : (v w : AttributeTypeAndValue) → SameFields v w → size_holds v ≡ size_holds w
alike_size v w s =
    ap (λ x. may_be x (characters (tag_of (attribute.value v)) (contents_of (attribute.value v)))) s.type_
    ∙ ap (λ x. may_be (identifier.octets_of (attribute.type_ w)) (characters x (contents_of (attribute.value v)))) s.tag
    ∙ ap (λ x. may_be (identifier.octets_of (attribute.type_ w)) (characters (tag_of (attribute.value w)) x)) s.contents
