-- The laws of a field and the fields after it, from the laws of both.
use Rattle.std.proofs.Common.{◌≡◌, ℕ, ◌+◌, ◌<◌, List, [], ◌∷◌, ◌++◌, length, drop, Bool, true, false, ◌||◌, Option, Some, None, Result, Ok, Err, refl, sym, ap, ◌∙◌, arith, append_assoc, subst}
use Rattle.std.proofs.lemmas.Bool.{or_left, or_right}
use Rattle.std.proofs.lemmas.List.{length-append}
use Rattle.std.proofs.Math.Seq.{drop-append_seam}
use Rattle.der_tlv.specs.declared.encoding_rules.EncodingRules.{EncodingRules}
use Rattle.der_tlv.specs.declared.error.ErrorKind.{ErrorKind}
use Rattle.der_tlv.specs.declared.tag.Tag.{Tag}
use Rattle.der_tlv.specs.Identifier.{identifier}
use Rattle.der_tlv.specs.OctetFaults.{IsOfOctets}
use Rattle.der_elem.specs.ItemLaws.{join_of_octets}
use Rattle.der_elem.specs.declared.form.Form as form
use Rattle.der_elem.specs.Items.{join_items}
use Rattle.der_elem.specs.Parsing.{Parse, ContentsParse}
use Rattle.der_elem.specs.Accepting.{Fits, BeginsWith, MayFollow}
use Rattle.der_elem.specs.FirstTags.{BeginsWithTag, BeginsWithFirst}
use Rattle.der_elem.specs.FirstTagLaws.{begins_with_tag_some}
use Rattle.der_fields.specs.FieldsFormat.{FieldsFormat}
use Rattle.der_fields.specs.FieldLists.{Distinguished, first_tag_or_next, AcceptsField, after_field, parse_field, parse_end}

-- octets that are not empty are distinguished from what follows them
pub follows_some : (tags : Tag → Bool) (b x : List ℕ) → 0 < length b → MayFollow tags b x
follows_some tags [] x h = absurd (omega arith)
follows_some tags (z ∷ b) x h = tt

pub either_part : (a b c d : Bool) → (a ≡ true → c ≡ true) → (b ≡ true → d ≡ true) → (a || b) ≡ true → (c || d) ≡ true
either_part true b c d f g e = or_left c d (f refl)
either_part false b c d f g e = or_right c d (g e)

-- the errors of fields are errors of their octets
after_of_octets : (rest : ℕ → List ℕ → Result (List ℕ) ErrorKind) (p : ℕ) (octets : List ℕ) → ((p : ℕ) (c : List ℕ) → IsOfOctets (rest p c)) → (r : Result (ℕ × List ℕ) ErrorKind) → IsOfOctets r → IsOfOctets (after_field rest p octets r)
after_of_octets rest p octets others (Err k) h = h
after_of_octets rest p octets others (Ok (n, first)) h = join_of_octets first (rest (p + n) (drop n octets)) (others (p + n) (drop n octets))

pub field_of_octets : (first : Parse) (rest : ContentsParse) → ((rules : EncodingRules) (p : ℕ) (c : List ℕ) → IsOfOctets (first rules p c)) → ((rules : EncodingRules) (p : ℕ) (c : List ℕ) → IsOfOctets (rest rules p c)) → (rules : EncodingRules) (p : ℕ) (octets : List ℕ) → IsOfOctets (parse_field first rest rules p octets)
field_of_octets first rest one others rules p octets = after_of_octets (rest rules) p octets (others rules) (first rules p octets) (one rules p octets)

pub end_of_octets : (rules : EncodingRules) (p : ℕ) (octets : List ℕ) → IsOfOctets (parse_end rules p octets)
end_of_octets rules p [] = tt
end_of_octets rules p (z ∷ left) = refl

-- a first part that is parsed, and then the others
pub parse_both : (first : Parse) (rest : ContentsParse) (rules : EncodingRules) (p : ℕ) (c x y d e : List ℕ) → c ≡ x ++ y → first rules p (x ++ y) ≡ Ok (length x, d) → rest rules (p + length x) y ≡ Ok e → parse_field first rest rules p c ≡ Ok (d ++ e)
parse_both first rest rules p c x y d e whole one others =
    ap (parse_field first rest rules p) whole
    ∙ ap (after_field (rest rules) p (x ++ y)) one
    ∙ ap (λ o. join_items d (rest rules (p + length x) o)) (drop-append_seam x y)
    ∙ ap (join_items d) others

pub same_lengths : (a b c x y : List ℕ) → c ≡ x ++ y → length a ≡ length x → length b ≡ length y → length (a ++ b) ≡ length c
same_lengths a b c x y whole first rest = omega (arith, length-append a b, length-append x y, ap length whole)

-- octets that begin with a tag that is none of these
begins_other : (tags : Tag → Bool) {t : Tag} {x : List ℕ} → BeginsWithTag t x → tags t ≡ false → BeginsWith tags false x
begins_other tags {t} {x} l e = record { tag = t; others = l.others; octets_are = l.octets_are; is_tag = l.is_tag; is_one = e }

-- if a field is distinguished from what follows, so are its octets
follows : (tags : Tag → Bool) (first_tag next : Option Tag) (b x : List ℕ) → BeginsWithFirst first_tag b → BeginsWithFirst next x → Distinguished tags first_tag next → MayFollow tags b x
follows tags (Some t) next b x k l h = follows_some tags b x (begins_with_tag_some k)
follows tags None next (z ∷ b) x k l h = tt
follows tags None None [] [] k l h = tt
follows tags None None [] (z ∷ x) k l h = absurd (cc)
follows tags None (Some t) [] [] k l h = tt
follows tags None (Some t) [] (z ∷ x) k l h = begins_other tags l h

begins_first_both : (first_tag next : Option Tag) (c x y : List ℕ) → c ≡ x ++ y → BeginsWithFirst first_tag x → BeginsWithFirst next y → BeginsWithFirst (first_tag_or_next first_tag next) c
begins_first_both None next c x y e k l = subst (BeginsWithFirst next) (sym (e ∙ ap (λ x. x ++ y) k)) l
begins_first_both (Some t) next c x y e k l =
    record { others = k.others ++ y; octets_are = e ∙ ap (λ o. o ++ y) k.octets_are ∙ append_assoc (identifier t) k.others y; is_tag = k.is_tag }

module _ {T U : Type 0} (F : form.Ghosts T) (G : FieldsFormat U) (rules : EncodingRules) where
  pub parse_of_field : (v : T) (w : U) (p : ℕ) (c : List ℕ) → AcceptsField F.tags (F.first_tag_of v) (G.first_tag w) (F.accepts rules) (G.octets.accepts rules) v w c → Fits c → parse_field F.parse G.octets.parse rules p c ≡ Ok (F.encoding v ++ G.octets.contents w)
  parse_of_field v w p c a fits =
      let x = a.front in
      let y = a.others in
      let long = length-append x y in
      let whole = ap length a.octets_are in
      let first_fits : Fits x = omega arith in
      let rest_fits : Fits y = omega arith in
      let may = follows F.tags (F.first_tag_of v) (G.first_tag w) x y (F.begins_first rules v x a.first) (G.begins_first rules w y a.rest) a.apart in
      parse_both F.parse G.octets.parse rules p c x y (F.encoding v) (G.octets.contents w) a.octets_are (F.parse_of_accepted rules v p x y a.first first_fits may) (G.octets.parse_of_accepted rules w (p + length x) y a.rest rest_fits)

  pub begins_first_field : (v : T) (w : U) (c : List ℕ) → AcceptsField F.tags (F.first_tag_of v) (G.first_tag w) (F.accepts rules) (G.octets.accepts rules) v w c → BeginsWithFirst (first_tag_or_next (F.first_tag_of v) (G.first_tag w)) c
  begins_first_field v w c a = begins_first_both (F.first_tag_of v) (G.first_tag w) c a.front a.others a.octets_are (F.begins_first rules v a.front a.first) (G.begins_first rules w a.others a.rest)

  pub same_length_field : (v : T) (w : U) (c : List ℕ) → AcceptsField F.tags (F.first_tag_of v) (G.first_tag w) (F.accepts rules) (G.octets.accepts rules) v w c → length (F.encoding v ++ G.octets.contents w) ≡ length c
  same_length_field v w c a =
      same_lengths (F.encoding v) (G.octets.contents w) c a.front a.others a.octets_are (F.same_length rules v a.front a.first) (G.octets.same_length rules w a.others a.rest)

  pub accepts_field_joined : (v : T) (w : U) → F.readable v × G.octets.readable w × Distinguished F.tags (F.first_tag_of v) (G.first_tag w) → AcceptsField F.tags (F.first_tag_of v) (G.first_tag w) (F.accepts rules) (G.octets.accepts rules) v w (F.encoding v ++ G.octets.contents w)
  accepts_field_joined v w (r, s, h) =
      record { front = F.encoding v; others = G.octets.contents w; octets_are = refl; first = F.accepts_encoding rules v r; rest = G.octets.accepts_contents rules w s; apart = h }

  pub readable_field : (v : T) (w : U) (c : List ℕ) → AcceptsField F.tags (F.first_tag_of v) (G.first_tag w) (F.accepts rules) (G.octets.accepts rules) v w c → F.readable v × G.octets.readable w × Distinguished F.tags (F.first_tag_of v) (G.first_tag w)
  readable_field v w c a = (F.only_readable rules v a.front a.first, G.octets.only_readable rules w a.others a.rest, a.apart)

  pub all_comparable_field : (v x : T) (w y : U) (c d : List ℕ) → AcceptsField F.tags (F.first_tag_of v) (G.first_tag w) (F.accepts rules) (G.octets.accepts rules) v w c → AcceptsField F.tags (F.first_tag_of x) (G.first_tag y) (F.accepts rules) (G.octets.accepts rules) x y d → F.comparable v x × G.octets.comparable w y × Distinguished F.tags (F.first_tag_of v) (G.first_tag w) × Distinguished F.tags (F.first_tag_of x) (G.first_tag y)
  all_comparable_field v x w y c d a b =
      (F.accepts_comparable rules v x a.front b.front a.first b.first, G.octets.accepts_comparable rules w y a.others b.others a.rest b.rest, a.apart, b.apart)

module _ {T U : Type 0} (F : form.Ghosts T) (G : FieldsFormat U) where
  pub re_read_field : (v : T) (w : U) → (F.re_reads v || G.octets.re_reads w) ≡ true → (F.TAKES_MEMORY || G.octets.TAKES_MEMORY) ≡ true
  re_read_field v w = either_part (F.re_reads v) (G.octets.re_reads w) F.TAKES_MEMORY G.octets.TAKES_MEMORY (F.re_reads_memory v) (G.octets.re_reads_memory w)

pub either_memory : {a b c d : Bool} → a ≡ c → b ≡ d → (a || b) ≡ (c || d)
either_memory {a} {b} {c} {d} e f = ap (λ x. x || b) e ∙ ap (λ x. c || x) f
