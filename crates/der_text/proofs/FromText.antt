-- The units of the characters of a text, taken one after another.
use Rattle.std.proofs.Common.{◌≡◌, ℕ, ◌+◌, ◌*◌, ◌/◌, ◌%◌, ◌<◌, ◌≤◌, nat_lt, Bool, true, false, List, [], ◌∷◌, ◌++◌, length, chars, refl, ap, sym, ◌∙◌, arith, append_assoc, encode_utf8, encode_utf8_all}
use Rattle.std.specs.List.{list_all}
use Rattle.std.specs.Char.{IsScalar}
use Rattle.std.specs.Str.{all_scalars}
use Rattle.std.proofs.lemmas.Str.{chars-encodes, chars-append, encodes-append, chars-nil}
use Rattle.std.proofs.lemmas.Bool.{and_parts, and_from, and_right}
use Rattle.std.proofs.lemmas.Bool.Decides.{nat_tests}
use Rattle.std.proofs.lemmas.List.{append-nil, nil_from_length}
use Rattle.der_text.specs.BmpUnits.{units, is_basic}
use Rattle.der_text.proofs.Pairs.{units_len, units_more}

abbrev small : ℕ → Bool
small c = nat_lt c 65536

-- the octets are the units of the characters of the text without the rest
pub record Taken (text octets rest : List ℕ) : Type 0 where
  pub even : length octets % 2 ≡ 0
  pub characters : all_scalars (units octets) ≡ true
  pub basic : list_all small (units octets) ≡ true
  pub joined : encode_utf8_all (units octets) ++ rest ≡ text

scalars_more : (us : List ℕ) (c : ℕ) → all_scalars us ≡ true → IsScalar c → all_scalars (us ++ c ∷ []) ≡ true
scalars_more [] c e s = and_from _ true s refl
scalars_more (u ∷ us) c e s = let parts = and_parts _ (all_scalars us) e in and_from _ _ parts.0 (scalars_more us c parts.1 s)

small_more : (us : List ℕ) (c : ℕ) → list_all small us ≡ true → small c ≡ true → list_all small (us ++ c ∷ []) ≡ true
small_more [] c e s = and_from _ true s refl
small_more (u ∷ us) c e s = let parts = and_parts _ (list_all small us) e in and_from _ _ parts.0 (small_more us c parts.1 s)

small_tested : (c : ℕ) → c < 65536 → small c ≡ true
small_tested c l = grind (arith, nat_tests)

large_tested : (c : ℕ) → 65536 ≤ c → small c ≡ false
large_tested c l = grind (arith, nat_tests)

large_among : (us rest : List ℕ) (c : ℕ) → 65536 ≤ c → list_all small ((us ++ c ∷ []) ++ rest) ≡ false
large_among [] rest c l = rw (large_tested c l) refl
large_among (u ∷ us) rest c l = and_right _ _ (large_among us rest c l)

joined_more : (us : List ℕ) (c : ℕ) (rest rest' : List ℕ) → rest ≡ encode_utf8 c ++ rest' → encode_utf8_all us ++ rest ≡ encode_utf8_all (us ++ c ∷ []) ++ rest'
joined_more us c rest rest' e =
    ap (λ r. encode_utf8_all us ++ r) e
    ∙ sym (ap (λ l. l ++ rest') (encodes-append us (c ∷ [])) ∙ append_assoc (encode_utf8_all us) (encode_utf8 c ++ []) rest' ∙ ap (λ l. encode_utf8_all us ++ l) (append_assoc (encode_utf8 c) [] rest'))

chars_joined : (us rest : List ℕ) → all_scalars us ≡ true → chars (encode_utf8_all us ++ rest) ≡ us ++ chars rest
chars_joined us rest e = chars-append (encode_utf8_all us) rest (us, (e, refl)) ∙ ap (λ l. l ++ chars rest) (chars-encodes us e)

pub taken_first : (text : List ℕ) → Taken text [] text
taken_first text = record { even = refl; characters = refl; basic = refl; joined = refl }

unit_of : (c : ℕ) → (c / 256) * 256 + c % 256 ≡ c
unit_of c = omega arith

-- one more character
pub taken_more : {text octets rest : List ℕ} → (c : ℕ) (rest' : List ℕ) → Taken text octets rest → IsScalar c → c < 65536 → rest ≡ encode_utf8 c ++ rest' → Taken text (octets ++ (c / 256) ∷ (c % 256) ∷ []) rest'
taken_more {text} {octets} {rest} c rest' t scalar less e =
    let now : units (octets ++ (c / 256) ∷ (c % 256) ∷ []) ≡ units octets ++ c ∷ [] = units_more octets (c / 256) (c % 256) t.even ∙ ap (λ n. units octets ++ n ∷ []) (unit_of c) in
    record {
      even = even_more octets _ _ t.even;
      characters = ap all_scalars now ∙ scalars_more (units octets) c t.characters scalar;
      basic = ap (list_all small) now ∙ small_more (units octets) c t.basic (small_tested c less);
      joined = ap (λ us. encode_utf8_all us ++ rest') now ∙ sym (joined_more (units octets) c rest rest' e) ∙ t.joined;
    }
  where
    even_more : (octets : List ℕ) (h l : ℕ) → length octets % 2 ≡ 0 → length (octets ++ h ∷ l ∷ []) % 2 ≡ 0
    even_more [] h l e = refl
    even_more (x ∷ []) h l e = absurd (omega arith)
    even_more (x ∷ y ∷ octets) h l e = let less : length (octets ++ h ∷ l ∷ []) % 2 ≡ 0 = even_more octets h l (omega arith) in omega arith

-- a character above FFFF
pub taken_wide : {text octets rest : List ℕ} → (c : ℕ) (rest' : List ℕ) → Taken text octets rest → IsScalar c → 65536 ≤ c → rest ≡ encode_utf8 c ++ rest' → is_basic text ≡ false
taken_wide {text} {octets} {rest} c rest' t scalar more e =
    let us = units octets ++ c ∷ [] in
    let joined : text ≡ encode_utf8_all us ++ rest' = sym t.joined ∙ joined_more (units octets) c rest rest' e in
    ap is_basic joined ∙ ap (list_all small) (chars_joined us rest' (scalars_more (units octets) c t.characters scalar)) ∙ large_among (units octets) (chars rest') c more

-- if no characters are left, the units are the characters
pub taken_units : {text octets rest : List ℕ} → Taken text octets rest → length rest ≡ 0 → units octets ≡ chars text
taken_units {text} {octets} {rest} t e =
    sym (ap chars (sym t.joined ∙ ap (λ r. encode_utf8_all (units octets) ++ r) (nil_from_length rest e)) ∙ chars_joined (units octets) [] t.characters ∙ ap (λ l. units octets ++ l) chars-nil ∙ append-nil (units octets))

pub taken_basic : {text octets rest : List ℕ} → Taken text octets rest → length rest ≡ 0 → is_basic text ≡ true
taken_basic t e = ap (list_all small) (sym (taken_units t e)) ∙ t.basic

pub taken_len : {text octets rest : List ℕ} → Taken text octets rest → length rest ≡ 0 → length octets ≡ 2 * length (chars text)
taken_len {text} {octets} t e =
    let halves : length (units octets) ≡ length octets / 2 = units_len octets in
    let same : length (units octets) ≡ length (chars text) = ap length (taken_units t e) in
    let even : length octets % 2 ≡ 0 = t.even in
    omega arith
