-- Parts of a name, one after another.
use Rattle.std.proofs.Common.{◌≡◌, ◌-◌, ◌<◌, ◌≤◌, ◌^◌, List, [], ◌∷◌, ◌++◌, ℕ, Bool, length, take, drop, get_or, inl, inr, ap, sym, ◌∙◌, subst, arith}
use Rattle.std.specs.Prelude.{flat_map}
use Rattle.std.proofs.Math.Seq.{take-length}
use Rattle.std.proofs.lemmas.Grind.{flat_map-append}
use Rattle.std.proofs.lemmas.List.{append-nil, append_assoc, length-append}
use Rattle.der_tlv.specs.declared.error.ErrorKind.{ErrorKind}
use Rattle.der_tlv.specs.declared.tag.Tag.{Tag}
use Rattle.der_tlv.specs.declared.tag.Tag.TheVariants as tags
use Rattle.der_tlv.specs.HeaderOctets.{header_octets, tlv}
use Rattle.der_elem.specs.Encoding.{NoVector}
use Rattle.der_opaque.specs.Any.{tag_of, contents_of}
use Rattle.der_opaque.specs.declared.any.Any.{Any}
use Rattle.der_build.specs.declared.attributes.TextAttribute.{TextAttribute}
use Rattle.der_build.specs.Attributes.{attribute_octets}
use Rattle.der_build.specs.Names.{name_octets, part_octets, RefusesName, RefusesOne, RefusesPart}

-- the encoding of a part
abbrev pub part_encoding : Any → List ℕ
part_encoding part = tlv (tag_of part) (contents_of part)

-- the octets of the parts so far and of the attributes that are left stay equal if a part is made of the first of these attributes
one_more : {P A : Type 0} (encoding : P → List ℕ) (octets : A → List ℕ) (parts : List P) (part : P) (first : A) (others : List A) → encoding part ≡ octets first → flat_map encoding (parts ++ part ∷ []) ++ flat_map octets others ≡ flat_map encoding parts ++ flat_map octets (first ∷ others)
one_more encoding octets parts part first others same =
    ap (λ l. l ++ flat_map octets others) (flat_map-append encoding parts (part ∷ []))
    ∙ append_assoc (flat_map encoding parts) (flat_map encoding (part ∷ [])) (flat_map octets others)
    ∙ ap (λ l. flat_map encoding parts ++ (l ++ flat_map octets others)) (append-nil (encoding part) ∙ same)

-- parts of the attributes before those that are left: their octets and those that are left are the octets of all, and an error of an attribute that is left is an error of all
abbrev pub MadeSoFar : List TextAttribute → List TextAttribute → List Any → Type 0
MadeSoFar all l parts =
    (flat_map part_encoding parts ++ flat_map part_octets l ≡ flat_map part_octets all)
    × ((kind : ErrorKind) → RefusesOne kind l → RefusesOne kind all)

-- what is left after the first
rest_is : (x : TextAttribute) (xs : List TextAttribute) → take (length (x ∷ xs) - 1) (drop 1 (x ∷ xs)) ≡ xs
rest_is x xs = let n : length (x ∷ xs) - 1 ≡ length xs = omega arith in ap (λ n. take n xs) n ∙ take-length xs

-- an encoding is at least as long as its contents octets
longer : (t : Tag) (octets : List ℕ) → length octets ≤ length (tlv t octets)
longer t octets = omega (arith, length-append (header_octets t (length octets)) octets)

-- octets are at least as long as any part of them
contained : (front part behind whole : List ℕ) → front ++ (part ++ behind) ≡ whole → length part ≤ length whole
contained front part behind whole same = omega (arith, ap length same, length-append front (part ++ behind), length-append part behind)

-- a name is at least as long as each of its attributes
long_name : (all : List TextAttribute) (x : TextAttribute) (xs : List TextAttribute) (parts : List Any) → flat_map part_encoding parts ++ flat_map part_octets (x ∷ xs) ≡ flat_map part_octets all → 2 ^ 32 ≤ length (attribute_octets x.type_.now x.text.now) → 2 ^ 32 ≤ length (name_octets all)
long_name all x xs parts same long =
    let own = longer tags.Set (attribute_octets x.type_.now x.text.now) in
    let within = contained (flat_map part_encoding parts) (part_octets x) (flat_map part_octets xs) (flat_map part_octets all) same in
    let whole = longer tags.Sequence (flat_map part_octets all) in
    omega (arith, long, own, within, whole)

-- the reason why the part of the first attribute that is left is not made
first_refused : (kind : ErrorKind) (all : List TextAttribute) (x : TextAttribute) (xs : List TextAttribute) (parts : List Any) → MadeSoFar all (x ∷ xs) parts → RefusesPart x kind → RefusesName all kind
first_refused kind all x xs parts made (inl text) = inr (inr (made.1 kind (inl text)))
first_refused kind all x xs parts made (inr (inl memory)) = inl memory.0
first_refused kind all x xs parts made (inr (inr (inl long))) = inr (inl (long.0, long_name all x xs parts made.0 long.1))
first_refused kind all x xs parts made (inr (inr (inr again))) = inl again.0

pub part_refused : (kind : ErrorKind) (all l : List TextAttribute) (d a : TextAttribute) (parts : List Any) → MadeSoFar all l parts → 1 ≤ length l → a ≡ get_or l 0 d → RefusesPart a kind → RefusesName all kind
part_refused kind all [] d a parts made some at r = absurd (omega (arith, some))
part_refused kind all (x ∷ xs) d a parts made some at r = first_refused kind all x xs parts made (subst (λ (y : TextAttribute). RefusesPart y kind) at r)

pub one_made : (all l others : List TextAttribute) (d a : TextAttribute) (parts next : List Any) (part : Any) → MadeSoFar all l parts → 1 ≤ length l → a ≡ get_or l 0 d → others ≡ take (length l - 1) (drop 1 l) → part_encoding part ≡ part_octets a → next ≡ parts ++ part ∷ [] → MadeSoFar all others next
one_made all [] others d a parts next part made some at o same n = absurd (omega (arith, some))
one_made all (x ∷ xs) others d a parts next part made some at o same n =
    let left : others ≡ xs = o ∙ rest_is x xs in (
      ap (λ l. flat_map part_encoding l ++ flat_map part_octets others) n
          ∙ ap (λ l. flat_map part_encoding (parts ++ part ∷ []) ++ flat_map part_octets l) left
          ∙ one_more part_encoding part_octets parts part x xs (same ∙ ap part_octets at)
          ∙ made.0,
      λ kind r. made.1 kind (inr (subst (RefusesOne kind) left r)),
    )

pub all_made : (all l : List TextAttribute) (parts : List Any) → MadeSoFar all l parts → length l < 1 → tlv tags.Sequence (flat_map part_encoding parts) ≡ name_octets all
all_made all [] parts made none = ap (tlv tags.Sequence) (sym (append-nil (flat_map part_encoding parts)) ∙ made.0)
all_made all (x ∷ xs) parts made none = absurd (omega (arith, none))

-- the reason why the octets of a name are not written
pub not_written : (all : List TextAttribute) (octets : List ℕ) (re_reads : Bool) (kind : ErrorKind) → octets ≡ name_octets all → NoVector octets re_reads kind → RefusesName all kind
not_written all octets re_reads kind same (inl memory) = inl memory.0
not_written all octets re_reads kind same (inr (inl long)) = inr (inl (long.0, subst (λ (l : List ℕ). 2 ^ 32 ≤ length l) same long.1))
not_written all octets re_reads kind same (inr (inr again)) = inl again.0
