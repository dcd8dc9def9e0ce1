-- Fields are distinguished by their first tags.
use Rattle.std.proofs.Common.{◌≡◌, ◌≢◌, ℕ, ◌<◌, List, [], ◌∷◌, ◌++◌, length, Bool, true, false, ◌&&◌, inl, inr, Option, Some, None, Result, Ok, Err, refl, sym, ap, ◌∙◌, arith, subst, append_assoc, IsTrue, ◌↔◌}
use Rattle.std.proofs.lemmas.Bool.{and_parts, and_from, both_ways}
use Rattle.std.proofs.lemmas.List.{length-append, append-nil, append_cancel_left}
use Rattle.std.specs.declared.cmp.Ordering.{Ordering}
use Rattle.std.specs.declared.cmp.Ordering.TheVariants.{Less, Equal, Greater}
use Rattle.std.specs.Ordering.{ordering_then}
use Rattle.der_tlv.specs.declared.error.ErrorKind.{ErrorKind}
use Rattle.der_tlv.specs.declared.error.ErrorKind.TheVariants.{Overflow, Memory, Value}
use Rattle.der_tlv.specs.declared.error.Error.{Error}
use Rattle.der_tlv.specs.declared.tag.Tag.{Tag}
use Rattle.der_tlv.specs.Octets.{lex}
use Rattle.der_tlv.specs.OrderingLaws.{then_decided}
use Rattle.der_tlv.specs.OctetLaws.{SameBeginning, lex-append}
use Rattle.der_tlv.specs.HeaderOctets.{tlv}
use Rattle.der_tlv.specs.HeaderLaws.{tlv-unique}
use Rattle.der_tlv.specs.Identifier.{identifier}
use Rattle.der_tlv.specs.IdentifierLaws.{identifier-unique, identifier-beginning, lex-identifier-equal, length-identifier-positive}
use Rattle.der_elem.specs.declared.form.Form as form
use Rattle.der_elem.specs.Comparing.{IncomparableOctets, ComparesOctets, Incomparable}
use Rattle.der_elem.specs.FirstTags.{SamePresence, Starts, StartsWith}
use Rattle.der_fields.specs.FieldLists.{Distinguished, first_tag_or_next}
use Rattle.der_fields.specs.Defaults.{octets_unless}
use Rattle.der_fields.specs.ComparingFields.{lex_first_tags}

starts_some : {t : Tag} {a : List ℕ} → StartsWith t a → 0 < length a
starts_some {t} {a} s = omega (arith, ap length s.octets_are, length-append (identifier t) s.others, length-identifier-positive t)

-- octets start with at most one tag
one_start : {t u : Tag} {a b : List ℕ} → StartsWith t a → StartsWith u b → (x y : List ℕ) → a ++ x ≡ b ++ y → t ≡ u
one_start {t} {u} {a} {b} s r x y e =
    let f : identifier t ++ (s.others ++ x) ≡ identifier u ++ (r.others ++ y) = sym (append_assoc (identifier t) s.others x) ∙ ap (λ o. o ++ x) (sym s.octets_are) ∙ e ∙ ap (λ o. o ++ y) r.octets_are ∙ append_assoc (identifier u) r.others y in
    (identifier-unique t u (s.others ++ x) (r.others ++ y) f).0

pub same_first_tag : (l m : Option Tag) (a b : List ℕ) → Starts l a → Starts m b → a ≡ b → l ≡ m
same_first_tag None None a b s r e = refl
same_first_tag None (Some u) a b s r e = absurd (let some = starts_some r in omega (arith, ap length s, ap length e))
same_first_tag (Some t) None a b s r e = absurd (let some = starts_some s in omega (arith, ap length r, ap length e))
same_first_tag (Some t) (Some u) a b s r e = ap Some (one_start s r [] [] (ap (λ o. o ++ []) e))

pub starts_both : (l n : Option Tag) (a c : List ℕ) → Starts l a → Starts n c → Starts (first_tag_or_next l n) (a ++ c)
starts_both None n a c s r = subst (λ a. Starts n (a ++ c)) (sym s) r
starts_both (Some t) n a c s r = record { others = s.others ++ c; octets_are = ap (λ o. o ++ c) s.octets_are ∙ append_assoc (identifier t) s.others c }

-- one of two encodings begins with the tag of a field, and the other, in which the field is absent, with the tag of what follows
clash : (tags : Tag → Bool) (t : Tag) (next : Option Tag) (a c b d : List ℕ) → tags t ≡ true → StartsWith t a → b ≡ [] → Starts next d → Distinguished tags None next → a ++ c ≡ b ++ d → ⊥
clash tags t None a c b d own s none r h e =
    let some = starts_some s in
    omega (arith, ap length e, ap length none, ap length r, length-append a c, length-append b d)
clash tags t (Some u) a c b d own s none r h e =
    let f : a ++ c ≡ d ++ [] = e ∙ ap (λ b. b ++ d) none ∙ sym (append-nil d) in
    both_ways _ (ap tags (one_start s r c [] f) ∙ h) own

-- joined encodings determine the fields
pub distinguished : (tags : Tag → Bool) (l m next next' : Option Tag) (a b c d : List ℕ) → ((t : Tag) → l ≡ Some t → tags t ≡ true) → ((t : Tag) → m ≡ Some t → tags t ≡ true) → Starts l a → Starts m b → Starts next c → Starts next' d → (SamePresence l m → SameBeginning a b) → Distinguished tags l next → Distinguished tags m next' → a ++ c ≡ b ++ d → (a ≡ b) × (c ≡ d)
distinguished tags None None next next' a b c d own own' s r s' r' same h h' e =
    let one : a ≡ b = (same tt).same c d e in (one, append_cancel_left a c d (e ∙ ap (λ b. b ++ d) (sym one)))
distinguished tags (Some t) (Some u) next next' a b c d own own' s r s' r' same h h' e =
    let one : a ≡ b = (same tt).same c d e in (one, append_cancel_left a c d (e ∙ ap (λ b. b ++ d) (sym one)))
distinguished tags (Some t) None next next' a b c d own own' s r s' r' same h h' e = absurd (clash tags t next' a c b d (own t refl) s r r' h' e)
distinguished tags None (Some u) next next' a b c d own own' s r s' r' same h h' e = absurd (clash tags u next b d a c (own' u refl) r s s' h (sym e))

-- an encoding is determined before what follows it
pub tlv_distinguished : (t u : Tag) (c d x y : List ℕ) → tlv t c ++ x ≡ tlv u d ++ y → (tlv t c ≡ tlv u d) × (x ≡ y)
tlv_distinguished t u c d x y e = let same = tlv-unique t u c d x y e in (ap (λ t. tlv t c) same.0 ∙ ap (tlv u) same.1, same.2)

-- fields are equal exactly if their joined encodings are
pub eq_both : (p q : Bool) (a b c d : List ℕ) → (IsTrue p ↔ (a ≡ b)) → (IsTrue q ↔ (c ≡ d)) → (a ++ c ≡ b ++ d → (a ≡ b) × (c ≡ d)) → IsTrue (p && q) ↔ (a ++ c ≡ b ++ d)
eq_both p q a b c d first others told = (
  (λ h. let r = and_parts p q h in ap (λ a. a ++ c) (first.0 r.0) ∙ ap (λ c. b ++ c) (others.0 r.1)),
  (λ e. let t = told e in and_from p q (first.1 t.0) (others.1 t.1)),
)

-- the last field has nothing after it
pub eq_last : (p : Bool) (a b : List ℕ) → (IsTrue p ↔ (a ≡ b)) → IsTrue p ↔ (a ++ [] ≡ b ++ [])
eq_last p a b last = (
  (λ h. ap (λ o. o ++ []) (last.0 h)),
  (λ e. last.1 (sym (append-nil a) ∙ e ∙ append-nil b)),
)

-- the first field that differs decides the order
pub first_decides : (a b c d : List ℕ) (order : Ordering) → SameBeginning a b → order ≡ lex a b → order ≢ Equal → order ≡ lex (a ++ c) (b ++ d)
first_decides a b c d order same e h = sym (lex-append a b c d same ∙ ap (λ o. ordering_then o (lex c d)) (sym e) ∙ then_decided order (lex c d) h)

-- otherwise the fields after it decide
module _ (a b c d : List ℕ) (one one' : Type 0) (r s r' s' : Bool) (forms : one → one') (left : r' ≡ true → r ≡ true) (right : s' ≡ true → s ≡ true) where
  not_compared : (kind : ErrorKind) → IncomparableOctets c d (one' → ⊥) r' s' kind → IncomparableOctets (a ++ c) (b ++ d) (one → ⊥) r s kind
  not_compared Overflow why = elim why [
    | inl l ↦ inl (omega (arith, length-append a c))
    | inr l ↦ inr (omega (arith, length-append b d))
  ]
  not_compared (Value tag) why = λ o. why (forms o)
  not_compared Memory why = elim why [ inl m ↦ inl (left m) | inr m ↦ inr (right m) ]
  not_compared _ why = absurd why

  pub others_decide : (result : Result Ordering Error) → SameBeginning a b → Equal ≡ lex a b → ComparesOctets c d (one' → ⊥) r' s' result → ComparesOctets (a ++ c) (b ++ d) (one → ⊥) r s result
  others_decide (Ok order) same e told = told ∙ sym (lex-append a b c d same ∙ ap (λ o. ordering_then o (lex c d)) (sym e))
  others_decide (Err error) same e told = not_compared error.kind told

-- if the first fields are not comparable, the lists are not
pub first_not_compared : {T : Type 0} (F : form.Ghosts T) (v x : T) (c d : List ℕ) (one : Type 0) (r s : Bool) → (one → F.comparable v x) → (F.re_reads v ≡ true → r ≡ true) → (F.re_reads x ≡ true → s ≡ true) → (kind : ErrorKind) → Incomparable F v x kind → IncomparableOctets (F.encoding v ++ c) (F.encoding x ++ d) (one → ⊥) r s kind
first_not_compared F v x c d one r s forms left right Overflow why = elim why [
  | inl l ↦ inl (omega (arith, length-append (F.encoding v) c))
  | inr l ↦ inr (omega (arith, length-append (F.encoding x) d))
]
first_not_compared F v x c d one r s forms left right (Value tag) why = λ o. why.0 (forms o)
first_not_compared F v x c d one r s forms left right Memory why = elim why [ inl m ↦ inl (left m) | inr m ↦ inr (right m) ]
first_not_compared F v x c d one r s forms left right _ why = absurd why

-- octets that start with different tags, or one of which has none
pub first_tags_decide : (l m : Option Tag) (a b : List ℕ) (order : Ordering) → Starts l a → Starts m b → order ≡ lex_first_tags l m → order ≢ Equal → order ≡ lex a b
first_tags_decide None None a b order s r e h = absurd (h e)
first_tags_decide None (Some u) a b order s r e h = e ∙ sym (ap (λ a. lex a b) s ∙ none_some b (starts_some r))
  where
    none_some : (b : List ℕ) → 0 < length b → lex [] b ≡ Less
    none_some [] h = absurd (omega arith)
    none_some (z ∷ b) h = refl
first_tags_decide (Some t) None a b order s r e h = e ∙ sym (ap (lex a) r ∙ some_none a (starts_some s))
  where
    some_none : (a : List ℕ) → 0 < length a → lex a [] ≡ Greater
    some_none [] h = absurd (omega arith)
    some_none (z ∷ a) h = refl
first_tags_decide (Some t) (Some u) a b order s r e h =
    first_decides (identifier t) (identifier u) s.others r.others order (identifier-beginning t u) e h ∙ sym (ap (λ a. lex a b) s.octets_are ∙ ap (lex (identifier t ++ s.others)) r.octets_are)

less_equal : Less ≡ Equal → ⊥
less_equal e = cc

greater_equal : Greater ≡ Equal → ⊥
greater_equal e = cc

-- if one field is absent and the octets begin with one tag, they are not distinguished
pub first_tags_clash : (tags : Tag → Bool) (l m next next' : Option Tag) → ((t : Tag) → l ≡ Some t → tags t ≡ true) → ((t : Tag) → m ≡ Some t → tags t ≡ true) → (SamePresence l m → ⊥) → lex_first_tags (first_tag_or_next l next) (first_tag_or_next m next') ≡ Equal → Distinguished tags l next → Distinguished tags m next' → ⊥
first_tags_clash tags None None next next' own own' mixed e h h' = mixed tt
first_tags_clash tags (Some t) (Some u) next next' own own' mixed e h h' = mixed tt
first_tags_clash tags (Some t) None next None own own' mixed e h h' = greater_equal e
first_tags_clash tags (Some t) None next (Some u) own own' mixed e h h' = both_ways _ (ap tags (lex-identifier-equal t u e) ∙ h') (own t refl)
first_tags_clash tags None (Some u) None next' own own' mixed e h h' = less_equal e
first_tags_clash tags None (Some u) (Some t) next' own own' mixed e h h' = both_ways _ (ap tags (sym (lex-identifier-equal t u e)) ∙ h) (own' u refl)

pub same_distinguished : (tags : Tag → Bool) (l m next next' : Option Tag) → m ≡ l → next' ≡ next → Distinguished tags l next → Distinguished tags m next'
same_distinguished tags l m next next' e f h = subst (λ m. Distinguished tags m next') (sym e) (subst (Distinguished tags l) (sym f) h)

pub clash_refuses : (a b : List ℕ) (one : Type 0) (r s : Bool) (kind : ErrorKind) (t : Tag) → kind ≡ Value t → (one → ⊥) → IncomparableOctets a b (one → ⊥) r s kind
clash_refuses a b one r s kind t e h = subst (IncomparableOctets a b (one → ⊥) r s) (sym e) h

pub same_presence_of : {l m l' m' : Option Tag} → l' ≡ l → m' ≡ m → SamePresence l' m' → SamePresence l m
same_presence_of {l} {m} {l'} {m'} e f h = subst (λ l. SamePresence l m) e (subst (SamePresence l') f h)

pub other_presence_of : {l m l' m' : Option Tag} → l' ≡ l → m' ≡ m → (SamePresence l' m' → ⊥) → SamePresence l m → ⊥
other_presence_of {l} {m} {l'} {m'} e f h k = h (subst (λ l. SamePresence l m') (sym e) (subst (SamePresence l) (sym f) k))

-- a field that may be absent is determined before an encoding with another tag
pub unless_distinguished : (k l : Bool) (t u : Tag) (c d e f x y : List ℕ) → (t ≡ u → ⊥) → octets_unless k (tlv t c) ++ (tlv u e ++ x) ≡ octets_unless l (tlv t d) ++ (tlv u f ++ y) → (octets_unless k (tlv t c) ≡ octets_unless l (tlv t d)) × (tlv u e ++ x ≡ tlv u f ++ y)
unless_distinguished true true t u c d e f x y other same = (refl, same)
unless_distinguished false false t u c d e f x y other same = tlv_distinguished t t c d (tlv u e ++ x) (tlv u f ++ y) same
unless_distinguished true false t u c d e f x y other same = absurd (other (sym (tlv-unique u t e d x (tlv u f ++ y) same).0))
unless_distinguished false true t u c d e f x y other same = absurd (other (tlv-unique t u c f (tlv u e ++ x) y same).0)
