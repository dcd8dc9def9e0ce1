-- A field that is read, and then the fields after it.
use Rattle.std.proofs.Common.{◌≡◌, ℕ, ◌+◌, ◌<◌, List, [], ◌∷◌, ◌++◌, length, take, drop, Bool, false, Option, Some, None, Result, Ok, Err, refl, inl, inr, ◌⊎◌, ◌-◌, sym, ap, ◌∙◌, subst, arith, add_assoc}
use Rattle.std.proofs.lemmas.List.{take-append-drop, length-take, length-drop}
use Rattle.std.proofs.Math.Seq.{drop-length}
use Rattle.der_tlv.specs.declared.error.ErrorKind.{ErrorKind}
use Rattle.der_tlv.specs.declared.error.ErrorKind.TheVariants.{TrailingData}
use Rattle.der_tlv.specs.declared.encoding_rules.EncodingRules.{EncodingRules}
use Rattle.der_tlv.specs.declared.tag.Tag.{Tag}
use Rattle.der_tlv.specs.HeaderReading.{read_tag}
use Rattle.der_tlv.specs.TagReadingLaws.{read_tag-identifier}
use Rattle.der_tlv.specs.ReaderState.{ReaderState, IsReaderState, rest, after_read, unless_failed}
use Rattle.der_tlv.proofs.ReaderStates.{rest-after_read}
use Rattle.der_elem.specs.declared.form.Form as form
use Rattle.der_elem.specs.FirstTags.{BeginsWithTag, BeginsWithFirst}
use Rattle.der_elem.specs.Items.{join_items}
use Rattle.der_elem.specs.FieldDecoding.{OtherTag, DistinguishedFromNext, FieldDecoded}
use Rattle.der_elem.proofs.ItemReading.{all_taken}
use Rattle.der_fields.specs.FieldsFormat.{FieldsFormat}
use Rattle.der_fields.specs.FieldLists.{Distinguished, AcceptsField, after_field, parse_field, parse_end}
use Rattle.der_elem.specs.FirstTagLaws.{begins_with_tag_some}
use Rattle.der_fields.specs.FieldsDecoding.{FieldsDecoded}

pub end_fault : (rules : EncodingRules) (p : ℕ) (c : List ℕ) → 0 < length c → parse_end rules p c ≡ Err (TrailingData p (length c))
end_fault rules p [] h = absurd (omega arith)
end_fault rules p (z ∷ c) h = refl

pub end_left : (old now : ReaderState) (kind : ErrorKind) (p n : ℕ) → IsReaderState now → old.failed ≡ false → now ≡ old → 0 < length (rest now) → p ≡ now.position → n ≡ now.end - now.position → kind ≡ TrailingData p n → unless_failed (parse_end old.rules) old ≡ Err kind
end_left old now kind p n sound' ready same some at left is =
    let sound : IsReaderState old = subst IsReaderState same sound' in
    let long : length (rest old) ≡ old.end - old.position = let o = sound.ordered in let i = sound.inside in omega (arith, length-drop old.position (take old.end old.input), length-take old.end old.input) in
    let some' : 0 < length (rest old) = subst (λ s. 0 < length (rest s)) same some in
    let seen_is : unless_failed (parse_end old.rules) old ≡ parse_end old.rules old.position (rest old) = rw ready refl in
    seen_is ∙ end_fault old.rules old.position (rest old) some' ∙ ap (λ n. Err (TrailingData old.position n)) (long ∙ sym (left ∙ ap (λ s. s.end - s.position) same)) ∙ ap (λ p. Err (TrailingData p n)) (sym (at ∙ ap (λ s. s.position) same)) ∙ ap Err (sym is)

same_tag : {m n : ℕ} {t u : Tag} → ◌≡◌ {A = Result (ℕ × Tag) ErrorKind} (Ok (m, t)) (Ok (n, u)) → t ≡ u
same_tag {m} {n} {t} {u} e = ap (tag_in t) e
  where
    tag_in : Tag → Result (ℕ × Tag) ErrorKind → Tag
    tag_in other (Ok (n, t)) = t
    tag_in other (Err k) = other

-- the octets that follow begin with another tag
other_tag : (tags : Tag → Bool) (p : ℕ) (octets : List ℕ) {t : Tag} → BeginsWithTag t octets → (octets ≡ []) ⊎ OtherTag tags p octets → tags t ≡ false
other_tag tags p octets {t} l h = elim h [
  | inl none ↦ absurd (let some = begins_with_tag_some l in omega (arith, ap length none))
  | inr o ↦ ap tags (same_tag (sym (ap (read_tag p) l.octets_are ∙ read_tag-identifier t p l.others l.is_tag) ∙ o.is_next)) ∙ o.is_other
]

apart : (tags : Tag → Bool) (first_tag next : Option Tag) (p : ℕ) (front others octets : List ℕ) → octets ≡ front ++ others → BeginsWithFirst first_tag front → BeginsWithFirst next others → DistinguishedFromNext tags first_tag p octets → Distinguished tags first_tag next
apart tags (Some t) next p front others octets e k l h = tt
apart tags None None p front others octets e k l h = tt
apart tags None (Some t) p front others octets e k l h =
    let same : others ≡ octets = sym (e ∙ ap (λ f. f ++ others) k) in
    other_tag tags p octets (subst (BeginsWithTag t) same l) h

module _ {T U : Type 0} {F : form.Ghosts T} {G : FieldsFormat U} {old mid now : ReaderState} {v : T} {w : U} (first : FieldDecoded F old mid v) (second : FieldsDecoded G mid now w) where
  same_rules : mid.rules ≡ old.rules
  same_rules = ap (λ s. s.rules) first.decoded.after

  rest_mid : rest mid ≡ drop first.decoded.taken (rest old)
  rest_mid = ap rest first.decoded.after ∙ rest-after_read old first.decoded.taken

  rest_parsed : G.octets.parse old.rules (old.position + first.decoded.taken) (drop first.decoded.taken (rest old)) ≡ Ok (G.octets.contents w)
  rest_parsed =
      ap (λ r. G.octets.parse r (old.position + first.decoded.taken) (drop first.decoded.taken (rest old))) (sym same_rules) ∙ ap (λ p. G.octets.parse mid.rules p (drop first.decoded.taken (rest old))) (sym (ap (λ s. s.position) first.decoded.after)) ∙ ap (G.octets.parse mid.rules mid.position) (sym rest_mid) ∙ second.parsed

  rest_accepted : G.octets.accepts old.rules w (drop first.decoded.taken (rest old))
  rest_accepted = subst (λ r. G.octets.accepts r w (drop first.decoded.taken (rest old))) same_rules (subst (G.octets.accepts mid.rules w) rest_mid second.accepted)

  pub both_parsed : parse_field F.parse G.octets.parse old.rules old.position (rest old) ≡ Ok (F.encoding v ++ G.octets.contents w)
  both_parsed = ap (after_field (G.octets.parse old.rules) old.position (rest old)) first.decoded.parsed ∙ ap (join_items (F.encoding v)) rest_parsed

  pub both_accepted : AcceptsField F.tags (F.first_tag_of v) (G.first_tag w) (F.accepts old.rules) (G.octets.accepts old.rules) v w (rest old)
  both_accepted =
      let whole : rest old ≡ take first.decoded.taken (rest old) ++ drop first.decoded.taken (rest old) = sym (take-append-drop first.decoded.taken (rest old)) in
      record {
        front = take first.decoded.taken (rest old);
        others = drop first.decoded.taken (rest old);
        octets_are = whole;
        first = first.decoded.accepted;
        rest = rest_accepted;
        apart = apart F.tags (F.first_tag_of v) (G.first_tag w) old.position (take first.decoded.taken (rest old)) (drop first.decoded.taken (rest old)) (rest old) whole (F.begins_first old.rules v (take first.decoded.taken (rest old)) first.decoded.accepted) (G.begins_first old.rules w (drop first.decoded.taken (rest old)) rest_accepted) first.distinguished;
      }

  both_after : now ≡ after_read old (first.decoded.taken + length (rest mid))
  both_after =
      second.after ∙ ap (λ s. after_read s (length (rest mid))) first.decoded.after ∙ ap (λ p. record old { position = p }) (add_assoc old.position first.decoded.taken (length (rest mid)))

  nothing_left : rest now ≡ []
  nothing_left = ap rest second.after ∙ rest-after_read mid (length (rest mid)) ∙ drop-length (rest mid)

  pub all_after : IsReaderState old → IsReaderState now → now ≡ after_read old (length (rest old))
  all_after sound sound' = both_after ∙ ap (after_read old) (all_taken old now (first.decoded.taken + length (rest mid)) sound sound' both_after nothing_left)
