-- Attributes of names as text, part by part.
use Rattle.std.proofs.Common.{◌≡◌, ℕ, ◌+◌, ◌^◌, ◌<◌, ◌≤◌, ◌==◌, nat_eq, drop, get_or, add-one, drop-cons, Bool, true, false, List, [], ◌∷◌, ◌++◌, length, Option, Some, None, refl, sym, ap, ◌∙◌, arith, append_assoc, suc, zero, subst, inl, inr}
use Rattle.std.specs.List.{flat_map}
use Rattle.std.specs.Borrow.{Bor}
use Rattle.std.specs.Cmp.Lexicographic.{pointwise}
use Rattle.std.proofs.lemmas.Bool.Decides.{nat_tests}
use Rattle.std.proofs.lemmas.List.{drop_all}
use Rattle.std.proofs.lemmas.Grind.{flat_map-append}
use Rattle.der_tlv.specs.HeaderOctets.{header_octets, tlv}
use Rattle.der_tlv.specs.declared.tag.Tag.{Tag}
use Rattle.der_tlv.specs.Identifier.{number_octets}
use Rattle.der_c.specs.AttributeText.{IsAttributeText, IsTextOf, IsTypeText, NamesType, escaped, escaped_octets, hex_pair, hexadecimal, is_control, name_among, none_left, short_names, value_text}
use Rattle.der_c.specs.Dotted.{HasNoText, HasText, TextPut, dotted}
use Rattle.der_c.specs.RoomText.{Puts}
use Rattle.der_c.proofs.DottedParts.{goes_on, some_octets}
use Rattle.der_c.proofs.RoomTexts.{puts_both, puts_none}

append_nil : (xs : List ℕ) → xs ++ [] ≡ xs
append_nil [] = refl
append_nil (x ∷ xs) = ap (λ z. x ∷ z) (append_nil xs)

-- ---- short names

-- the name of the first type, or that among the others
pub first_named : (first : List ℕ × List ℕ) (others : List (List ℕ × List ℕ)) (identifier : List ℕ) → pointwise nat_eq identifier first.0 ≡ true → name_among (first ∷ others) identifier ≡ Some first.1
first_named first others identifier e = rw e refl

pub others_named : (first : List ℕ × List ℕ) (others : List (List ℕ × List ℕ)) (identifier : List ℕ) (found : Option (Bor (List ℕ))) → pointwise nat_eq identifier first.0 ≡ false → NamesType others identifier found → NamesType (first ∷ others) identifier found
others_named first others identifier None e n = rw e n
others_named first others identifier (Some name) e n = rw e n

-- ---- characters

pub escaped_control : (is_first is_last : Bool) (x : ℕ) → is_control x ≡ true → escaped is_first is_last x ≡ 92 ∷ hex_pair x
escaped_control is_first is_last x e = rw e refl

-- some octets of a string are written
pub record EscapedSoFar (characters : List ℕ) (count : ℕ) (old : List ℕ) (position : ℕ) (new : List ℕ) (next : ℕ) : Type 0 where
  pub text : List ℕ
  pub put : Puts text old position new next
  pub rest_is : escaped_octets true characters ≡ text ++ escaped_octets (count == 0) (drop count characters)

pub nothing_escaped : (characters old : List ℕ) (position : ℕ) → position < 2 ^ 64 → EscapedSoFar characters 0 old position old position
nothing_escaped characters old position h = record { text = []; put = puts_none old position h; rest_is = refl }

same_test : (m n : ℕ) → (m == n) ≡ (suc m == suc n)
same_test m n = at (m == n) refl
  where
    at : (b : Bool) → (m == n) ≡ b → b ≡ (suc m == suc n)
    at true e = grind (arith, nat_tests)
    at false e = grind (arith, nat_tests)

first_test : (n : ℕ) → false ≡ (0 == suc n)
first_test n = grind (arith, nat_tests)

last_is : (characters : List ℕ) (i : ℕ) → i ≤ length characters → none_left (drop i characters) ≡ (i == length characters)
last_is [] zero h = refl
last_is [] (suc i) h = absurd (omega arith)
last_is (x ∷ characters) zero h = first_test (length characters)
last_is (x ∷ characters) (suc i) h = last_is characters i (omega arith) ∙ same_test i (length characters)

pub escape_more : (characters old mid new : List ℕ) (position m n i : ℕ) (is_first is_last : Bool) → length old < 2 ^ 64 → EscapedSoFar characters i old position mid m → i < length characters → is_first ≡ (i == 0) → is_last ≡ (i + 1 == length characters) → Puts (escaped is_first is_last (get_or characters i 0)) mid m new n → EscapedSoFar characters (i + 1) old position new n
escape_more characters old mid new position m n i is_first is_last few s h f l p =
    let octet : ℕ = get_or characters i 0 in
    let split : drop i characters ≡ octet ∷ drop (i + 1) characters = drop-cons characters i 0 h ∙ ap (λ k. octet ∷ drop k characters) (sym (add-one i)) in
    let last : none_left (drop (i + 1) characters) ≡ is_last = last_is characters (i + 1) (omega arith) ∙ sym l in
    let later : false ≡ (i + 1 == 0) = grind (arith, nat_tests) in
    record {
      text = s.text ++ escaped is_first is_last octet;
      put = puts_both s.text (escaped is_first is_last octet) old mid new position m n few s.put p;
      rest_is = s.rest_is ∙ ap (λ b. s.text ++ escaped_octets b (drop i characters)) (sym f) ∙ ap (λ z. s.text ++ escaped_octets is_first z) split
          ∙ ap (λ b. s.text ++ (escaped is_first b octet ++ escaped_octets false (drop (i + 1) characters))) last
          ∙ sym (append_assoc s.text (escaped is_first is_last octet) (escaped_octets false (drop (i + 1) characters)))
          ∙ ap (λ b. (s.text ++ escaped is_first is_last octet) ++ escaped_octets b (drop (i + 1) characters)) later;
    }

pub all_escaped : (characters old new : List ℕ) (position next i : ℕ) → EscapedSoFar characters i old position new next → length characters ≤ i → Puts (escaped_octets true characters) old position new next
all_escaped characters old new position next i s all =
    let P : List ℕ → Type 0 = λ t. Puts t old position new next in
    subst P (sym (s.rest_is ∙ ap (λ z. s.text ++ escaped_octets (i == 0) z) (drop_all i characters all) ∙ append_nil s.text)) s.put

-- ---- octets in hexadecimal

pub pairs_more : (octets more old mid new : List ℕ) (position m n octet : ℕ) → length old < 2 ^ 64 → Puts (flat_map hex_pair octets) old position mid m → Puts (hex_pair octet) mid m new n → more ≡ octets ++ (octet ∷ []) → Puts (flat_map hex_pair more) old position new n
pairs_more octets more old mid new position m n octet few one two e =
    let P : List ℕ → Type 0 = λ t. Puts t old position new n in
    subst P (sym (ap (flat_map hex_pair) e ∙ flat_map-append hex_pair octets (octet ∷ []) ∙ ap (λ z. flat_map hex_pair octets ++ z) (append_nil (hex_pair octet)))) (puts_both (flat_map hex_pair octets) (hex_pair octet) old mid new position m n few one two)

pub encoding_put : (tag : Tag) (contents old a b new : List ℕ) (position i j n : ℕ) → length old < 2 ^ 64 → length a < 2 ^ 64 → Puts (35 ∷ []) old position a i → Puts (flat_map hex_pair (header_octets tag (length contents))) a i b j → Puts (flat_map hex_pair contents) b j new n → Puts (hexadecimal (tlv tag contents)) old position new n
encoding_put tag contents old a b new position i j n few short one two three =
    let h : List ℕ = header_octets tag (length contents) in
    let P : List ℕ → Type 0 = λ t. Puts t old position new n in
    subst P (ap (λ z. 35 ∷ z) (sym (flat_map-append hex_pair h contents)))
    (puts_both (35 ∷ []) (flat_map hex_pair h ++ flat_map hex_pair contents) old a new position i n few one
    (puts_both (flat_map hex_pair h) (flat_map hex_pair contents) a b new i j n short two three))

-- ---- types

-- an identifier has one text
pub same_text : (contents s t : List ℕ) → HasText contents s → HasText contents t → s ≡ t
same_text contents s t a b = at found.0 found.1 found.2
  where
    found : (more : List ℕ) × (b.numbers ≡ a.numbers ++ more) × ([] ≡ flat_map number_octets more)
    found = goes_on a.numbers b.numbers [] (append_nil (flat_map number_octets a.numbers) ∙ sym a.are.octets_are ∙ b.are.octets_are)

    at : (more : List ℕ) → b.numbers ≡ a.numbers ++ more → [] ≡ flat_map number_octets more → s ≡ t
    at [] same octets = a.text_is ∙ ap dotted (sym (same ∙ append_nil a.numbers)) ∙ sym b.text_is
    at (m ∷ more) same octets = let some = some_octets m (flat_map number_octets more) in let l = ap length octets in absurd (omega arith)

pub no_type_put : (identifier old : List ℕ) (position : ℕ) → position < 2 ^ 64 → HasNoText identifier → (text : List ℕ) → IsTypeText identifier text → Puts text old position old position
no_type_put identifier old position h none text (inl has) = absurd (none text has)
no_type_put identifier old position h none text (inr not_there) = let P : List ℕ → Type 0 = λ t. Puts t old position old position in subst P (sym not_there.1) (puts_none old position h)

pub type_put : (identifier old new : List ℕ) (position next : ℕ) → TextPut identifier old position new next → (text : List ℕ) → IsTypeText identifier text → Puts text old position new next
type_put identifier old new position next put text (inl has) = let P : List ℕ → Type 0 = λ t. Puts t old position new next in subst P (same_text identifier put.text text put.has has) put.put
type_put identifier old new position next put text (inr not_there) = absurd (not_there.0 put.text put.has)

-- ---- attributes

pub named_put : (identifier name : List ℕ) (tag : Tag) (contents old a b new : List ℕ) (position i j n : ℕ) → length old < 2 ^ 64 → length a < 2 ^ 64 → name_among short_names identifier ≡ Some name → Puts name old position a i → Puts (61 ∷ []) a i b j → Puts (value_text tag contents) b j new n → (text : List ℕ) → IsAttributeText identifier tag contents text → Puts text old position new n
named_put identifier name tag contents old a b new position i j n few short e one two three text is =
    let P : List ℕ → Type 0 = λ t. Puts t old position new n in
    let Q : Option (List ℕ) → Type 0 = λ o. IsTextOf o identifier tag contents text in
    let same : text ≡ name ++ (61 ∷ value_text tag contents) = subst Q e is in
    subst P (sym same) (puts_both name (61 ∷ value_text tag contents) old a new position i n few one (puts_both (61 ∷ []) (value_text tag contents) a b new i j n short two three))

pub dotted_put : (identifier : List ℕ) (tag : Tag) (contents old a b new : List ℕ) (position i j n : ℕ) → length old < 2 ^ 64 → length a < 2 ^ 64 → name_among short_names identifier ≡ None → ((name : List ℕ) → IsTypeText identifier name → Puts name old position a i) → Puts (61 ∷ []) a i b j → Puts (hexadecimal (tlv tag contents)) b j new n → (text : List ℕ) → IsAttributeText identifier tag contents text → Puts text old position new n
dotted_put identifier tag contents old a b new position i j n few short e one two three text is =
    let P : List ℕ → Type 0 = λ t. Puts t old position new n in
    let Q : Option (List ℕ) → Type 0 = λ o. IsTextOf o identifier tag contents text in
    let same = subst Q e is in
    subst P (sym same.2) (puts_both same.0 (61 ∷ hexadecimal (tlv tag contents)) old a new position i n few (one same.0 same.1) (puts_both (61 ∷ []) (hexadecimal (tlv tag contents)) a b new i j n short two three))
