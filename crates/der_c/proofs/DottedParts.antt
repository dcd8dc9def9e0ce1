-- The text of an object identifier, subidentifier by subidentifier.
use Rattle.std.proofs.Common.{◌≡◌, ◌≢◌, ℕ, ◌/◌, ◌%◌, ◌^◌, ◌<◌, ◌≤◌, ◌==◌, Bool, true, false, List, [], ◌∷◌, ◌++◌, length, Option, Some, None, inl, inr, refl, sym, ap, ◌∙◌, arith, append_assoc, suc, zero, subst}
use Rattle.std.specs.List.{All, flat_map}
use Rattle.std.specs.Borrow.{Bor}
use Rattle.std.proofs.lemmas.List.{append_cancel_left, length-append}
use Rattle.std.proofs.lemmas.Bool.Decides.{nat_tests}
use Rattle.std.proofs.lemmas.List.Elements.{All-append}
use Rattle.std.proofs.lemmas.Grind.{flat_map-append}
use Rattle.der_tlv.specs.Identifier.{number_octets}
use Rattle.der_tlv.specs.IdentifierLaws.{number_octets-unique}
use Rattle.der_tlv.specs.TagDigits.{leading_octets}
use Rattle.der_c.specs.Dotted.{AnswersIs, AreSubidentifiers, FindsNumber, HasNoText, HasText, Matches, Strips, TextPut, arcs_text, dot_arc, dotted}
use Rattle.der_c.specs.Bits.{bit}
use Rattle.der_c.specs.RoomText.{Puts}
use Rattle.der_c.proofs.RoomTexts.{puts_both, puts_none}

append_nil : (xs : List ℕ) → xs ++ [] ≡ xs
append_nil [] = refl
append_nil (x ∷ xs) = ap (λ z. x ∷ z) (append_nil xs)

-- whether no subidentifier was read
abbrev pub none_yet : List ℕ → Bool
none_yet [] = true
none_yet (n ∷ numbers) = false

-- the subidentifiers that were read, and the octets that are left
pub record ReadSoFar (contents left numbers : List ℕ) (is_first : Bool) : Type 0 where
  pub small : All (λ n. n < 2 ^ 64) numbers
  pub octets_are : contents ≡ flat_map number_octets numbers ++ left
  pub first_is : is_first ≡ none_yet numbers

pub none_read : (contents : List ℕ) → ReadSoFar contents contents [] true
none_read contents = record { small = λ k d h. absurd (omega arith); octets_are = refl; first_is = refl }

one_more : (contents left others numbers : List ℕ) (n : ℕ) → contents ≡ flat_map number_octets numbers ++ left → left ≡ number_octets n ++ others → contents ≡ flat_map number_octets (numbers ++ (n ∷ [])) ++ others
one_more contents left others numbers n e f =
    e ∙ ap (λ z. flat_map number_octets numbers ++ z) (f ∙ ap (λ z. z ++ others) (sym (append_nil (number_octets n))))
    ∙ sym (append_assoc (flat_map number_octets numbers) (flat_map number_octets (n ∷ [])) others)
    ∙ ap (λ z. z ++ others) (sym (flat_map-append number_octets numbers (n ∷ [])))

one_small : (n : ℕ) → n < 2 ^ 64 → All (λ n. n < 2 ^ 64) (n ∷ [])
one_small n small zero d h = small
one_small n small (suc k) d h = absurd (omega arith)

some_read : (numbers : List ℕ) (n : ℕ) → false ≡ none_yet (numbers ++ (n ∷ []))
some_read [] n = refl
some_read (m ∷ numbers) n = refl

pub read_more : (contents left others numbers : List ℕ) (n : ℕ) (is_first : Bool) → ReadSoFar contents left numbers is_first → n < 2 ^ 64 → left ≡ number_octets n ++ others → ReadSoFar contents others (numbers ++ (n ∷ [])) false
read_more contents left others numbers n is_first r small e = record {
  small = All-append (λ n. n < 2 ^ 64) numbers (n ∷ []) r.small (one_small n small);
  octets_are = one_more contents left others numbers n r.octets_are e;
  first_is = some_read numbers n;
}

-- the text of one more subidentifier
dotted_more : (numbers : List ℕ) (n : ℕ) → dotted (numbers ++ (n ∷ [])) ≡ dotted numbers ++ arcs_text (none_yet numbers) n
dotted_more [] n = append_nil (arcs_text true n)
dotted_more (m ∷ numbers) n =
    ap (λ z. arcs_text true m ++ z) (flat_map-append dot_arc numbers (n ∷ [])) ∙ ap (λ z. arcs_text true m ++ (flat_map dot_arc numbers ++ z)) (append_nil (dot_arc n))
    ∙ sym (append_assoc (arcs_text true m) (flat_map dot_arc numbers) (dot_arc n))

-- a text of more subidentifiers
dotted_on : (numbers : List ℕ) (n : ℕ) (more : List ℕ) → (tail : List ℕ) × (dotted (numbers ++ (n ∷ more)) ≡ dotted numbers ++ (arcs_text (none_yet numbers) n ++ tail))
dotted_on [] n more = (flat_map dot_arc more, refl)
dotted_on (m ∷ numbers) n more = (
  flat_map dot_arc more,
  ap (λ z. arcs_text true m ++ z) (flat_map-append dot_arc numbers (n ∷ more)) ∙ sym (append_assoc (arcs_text true m) (flat_map dot_arc numbers) (flat_map dot_arc (n ∷ more))),
)

pub some_octets : (v : ℕ) (ys : List ℕ) → 0 < length (number_octets v ++ ys)
unfolding number_octets
some_octets v ys = omega (arith, length-append (number_octets v) ys, length-append (leading_octets (v / 128)) (v % 128 ∷ []))

-- the subidentifiers of octets begin with those that were read
pub goes_on : (numbers all left : List ℕ) → flat_map number_octets numbers ++ left ≡ flat_map number_octets all → (more : List ℕ) × (all ≡ numbers ++ more) × (left ≡ flat_map number_octets more)
goes_on [] all left e = (all, refl, e)
goes_on (n ∷ numbers) [] left e =
    let some : 0 < length (number_octets n ++ (flat_map number_octets numbers ++ left)) = some_octets n (flat_map number_octets numbers ++ left) in
    let l = ap length (sym (append_assoc (number_octets n) (flat_map number_octets numbers) left) ∙ e) in
    absurd (omega arith)
goes_on (n ∷ numbers) (m ∷ all) left e =
    let parts = number_octets-unique n m (flat_map number_octets numbers ++ left) (flat_map number_octets all) (sym (append_assoc (number_octets n) (flat_map number_octets numbers) left) ∙ e) in
    let more = goes_on numbers all left parts.1 in
    let first : n ≡ m = parts.0 in
    (more.0, ap (λ k. k ∷ all) (sym first) ∙ ap (λ z. n ∷ z) more.1, more.2)

last_small : (numbers : List ℕ) (m : ℕ) (more : List ℕ) → All (λ n. n < 2 ^ 64) (numbers ++ (m ∷ more)) → m < 2 ^ 64
last_small [] m more a = a 0 0 (omega arith)
last_small (n ∷ numbers) m more a = last_small numbers m more (λ k d h. a (suc k) d (omega arith))

-- octets that go on with no subidentifier have no text
pub no_more : (contents left numbers : List ℕ) (is_first : Bool) → ReadSoFar contents left numbers is_first → 0 < length left → FindsNumber left None → HasNoText contents
no_more contents left numbers is_first r some none text has = at found.0 found.1 found.2
  where
    all : List ℕ
    all = has.numbers

    found : (more : List ℕ) × (has.numbers ≡ numbers ++ more) × (left ≡ flat_map number_octets more)
    found = goes_on numbers has.numbers left (sym r.octets_are ∙ has.are.octets_are)

    at : (more : List ℕ) → has.numbers ≡ numbers ++ more → left ≡ flat_map number_octets more → ⊥
    at [] same octets = let l = ap length octets in omega arith
    at (m ∷ more) same octets =
        let great : 2 ^ 64 ≤ m = none m (flat_map number_octets more) octets in
        let small : m < 2 ^ 64 = last_small numbers m more (subst (All (λ n. n < 2 ^ 64)) same has.are.small) in
        omega arith

-- no octets have no text
pub none_at_all : (contents left numbers : List ℕ) (is_first : Bool) → ReadSoFar contents left numbers is_first → is_first ≡ true → length left ≡ 0 → HasNoText contents
none_at_all contents left [] is_first r first none text has =
    let l : length contents ≡ length left = ap length r.octets_are in
    at has.numbers has.are.some (ap length has.are.octets_are) (omega arith)
  where
    at : (numbers : List ℕ) → 0 < length numbers → length contents ≡ length (flat_map number_octets numbers) → length contents ≡ 0 → ⊥
    at [] some l z = omega arith
    at (n ∷ numbers) some l z = let s = some_octets n (flat_map number_octets numbers) in omega arith
none_at_all contents left (n ∷ numbers) is_first r first none text has = let no : true ≡ false = sym first ∙ r.first_is in absurd (cc)

-- all octets were read
no_octets : (left : List ℕ) → length left ≡ 0 → left ≡ []
no_octets [] h = refl
no_octets (x ∷ left) h = absurd (omega arith)

pub all_read : (contents left numbers : List ℕ) (is_first : Bool) → ReadSoFar contents left numbers is_first → is_first ≡ false → length left ≡ 0 → AreSubidentifiers contents numbers
all_read contents left [] is_first r first none = let no : false ≡ true = sym first ∙ r.first_is in absurd (cc)
all_read contents left (n ∷ numbers) is_first r first none = record {
  some = omega arith;
  small = r.small;
  octets_are = r.octets_are ∙ ap (λ z. flat_map number_octets (n ∷ numbers) ++ z) (no_octets left none) ∙ append_nil (flat_map number_octets (n ∷ numbers));
}

-- ---- writing

pub record PutSoFar (contents left old : List ℕ) (position : ℕ) (new : List ℕ) (next : ℕ) (is_first : Bool) : Type 0 where
  pub numbers : List ℕ
  pub read : ReadSoFar contents left numbers is_first
  pub put : Puts (dotted numbers) old position new next

pub nothing_put : (contents old : List ℕ) (position : ℕ) → position < 2 ^ 64 → PutSoFar contents contents old position old position true
nothing_put contents old position h = record { numbers = []; read = none_read contents; put = puts_none old position h }

pub put_more : (contents left others old mid new : List ℕ) (position m n number : ℕ) (is_first : Bool) → length old < 2 ^ 64 → number < 2 ^ 64 → PutSoFar contents left old position mid m is_first → left ≡ number_octets number ++ others → Puts (arcs_text is_first number) mid m new n → PutSoFar contents others old position new n false
put_more contents left others old mid new position m n number is_first few small s e p =
    let first : arcs_text is_first number ≡ arcs_text (none_yet s.numbers) number = ap (λ b. arcs_text b number) s.read.first_is in
    let P : List ℕ → Type 0 = λ t. Puts t mid m new n in
    let Q : List ℕ → Type 0 = λ t. Puts t old position new n in
    record {
      numbers = s.numbers ++ (number ∷ []);
      read = read_more contents left others s.numbers number is_first s.read small e;
      put = subst Q (sym (dotted_more s.numbers number)) (puts_both (dotted s.numbers) (arcs_text (none_yet s.numbers) number) old mid new position m n few s.put (subst P first p));
    }

pub all_put : (contents left old new : List ℕ) (position next : ℕ) (is_first : Bool) → PutSoFar contents left old position new next is_first → is_first ≡ false → length left ≡ 0 → TextPut contents old position new next
all_put contents left old new position next is_first s first none = record {
  text = dotted s.numbers;
  has = record { numbers = s.numbers; are = all_read contents left s.numbers is_first s.read first none; text_is = refl };
  put = s.put;
}

-- ---- comparing

pub record MatchedSoFar (contents left text rest : List ℕ) (is_first : Bool) : Type 0 where
  pub numbers : List ℕ
  pub read : ReadSoFar contents left numbers is_first
  pub text_is : text ≡ dotted numbers ++ rest

pub nothing_matched : (contents text : List ℕ) → MatchedSoFar contents contents text text true
nothing_matched contents text = record { numbers = []; read = none_read contents; text_is = refl }

pub match_more : (contents left others text rest behind : List ℕ) (number : ℕ) (is_first : Bool) → number < 2 ^ 64 → MatchedSoFar contents left text rest is_first → left ≡ number_octets number ++ others → rest ≡ arcs_text is_first number ++ behind → MatchedSoFar contents others text behind false
match_more contents left others text rest behind number is_first small s e p = record {
  numbers = s.numbers ++ (number ∷ []);
  read = read_more contents left others s.numbers number is_first s.read small e;
  text_is = s.text_is ∙ ap (λ z. dotted s.numbers ++ z) (p ∙ ap (λ b. arcs_text b number ++ behind) s.read.first_is)
      ∙ sym (append_assoc (dotted s.numbers) (arcs_text (none_yet s.numbers) number) behind) ∙ ap (λ z. z ++ behind) (sym (dotted_more s.numbers number));
}

-- a text that does not go on with the arcs of the next subidentifier is not that of the octets
pub not_matched : (contents left others text rest : List ℕ) (number : ℕ) (is_first : Bool) → MatchedSoFar contents left text rest is_first → left ≡ number_octets number ++ others → ((behind : List ℕ) → rest ≢ arcs_text is_first number ++ behind) → HasText contents text → ⊥
not_matched contents left others text rest number is_first s e none has = at found.0 found.1 found.2
  where
    found : (more : List ℕ) × (has.numbers ≡ s.numbers ++ more) × (left ≡ flat_map number_octets more)
    found = goes_on s.numbers has.numbers left (sym s.read.octets_are ∙ has.are.octets_are)

    at : (more : List ℕ) → has.numbers ≡ s.numbers ++ more → left ≡ flat_map number_octets more → ⊥
    at [] same octets = let some = some_octets number others in let l = ap length (sym e ∙ octets) in omega arith
    at (m ∷ more) same octets =
        let first : number ≡ m = (number_octets-unique number m others (flat_map number_octets more) (sym e ∙ octets)).0 in
        let tail = dotted_on s.numbers m more in
        let whole : dotted s.numbers ++ rest ≡ dotted s.numbers ++ (arcs_text (none_yet s.numbers) m ++ tail.0) = sym s.text_is ∙ has.text_is ∙ ap dotted same ∙ tail.1 in
        none tail.0 (append_cancel_left (dotted s.numbers) rest (arcs_text (none_yet s.numbers) m ++ tail.0) whole
        ∙ ap (λ b. arcs_text b m ++ tail.0) (sym s.read.first_is) ∙ ap (λ k. arcs_text is_first k ++ tail.0) (sym first))

-- a text that goes on after the last subidentifier is not that of the octets
pub not_ended : (contents left text rest : List ℕ) (is_first : Bool) → MatchedSoFar contents left text rest is_first → length left ≡ 0 → 0 < length rest → HasText contents text → ⊥
not_ended contents left text rest is_first s none some has = at found.0 found.1 found.2
  where
    found : (more : List ℕ) × (has.numbers ≡ s.numbers ++ more) × (left ≡ flat_map number_octets more)
    found = goes_on s.numbers has.numbers left (sym s.read.octets_are ∙ has.are.octets_are)

    at : (more : List ℕ) → has.numbers ≡ s.numbers ++ more → left ≡ flat_map number_octets more → ⊥
    at (m ∷ more) same octets = let s = some_octets m (flat_map number_octets more) in let l = ap length octets in omega arith
    at [] same octets =
        let e : dotted s.numbers ++ rest ≡ dotted s.numbers ++ [] = sym s.text_is ∙ has.text_is ∙ ap dotted (same ∙ append_nil s.numbers) ∙ sym (append_nil (dotted s.numbers)) in
        let l = ap length (append_cancel_left (dotted s.numbers) rest [] e) in omega arith

pub all_matched : (contents left text rest : List ℕ) (is_first : Bool) → MatchedSoFar contents left text rest is_first → is_first ≡ false → length left ≡ 0 → length rest ≡ 0 → HasText contents text
all_matched contents left text rest is_first s first none nothing = record {
  numbers = s.numbers;
  are = all_read contents left s.numbers is_first s.read first none;
  text_is = s.text_is ∙ ap (λ z. dotted s.numbers ++ z) (no_octets rest nothing) ∙ append_nil (dotted s.numbers);
}

-- ---- the beginning of a text

pub strips_both : (text a b middle : List ℕ) (found : Option (Bor (List ℕ))) → text ≡ a ++ middle → Strips middle b found → Strips text (a ++ b) found
strips_both text a b middle None e s = λ others f. s others (append_cancel_left a middle (b ++ others) (sym e ∙ f ∙ append_assoc a b others))
strips_both text a b middle (Some behind) e s = e ∙ ap (λ z. a ++ z) s ∙ sym (append_assoc a b behind.now)

pub strips_none : (text a b : List ℕ) → Strips text a None → Strips text (a ++ b) None
strips_none text a b none others e = none (b ++ others) (e ∙ append_assoc a b others)

pub shorter : (left others : List ℕ) (n : ℕ) → left ≡ number_octets n ++ others → length others < length left
unfolding number_octets
shorter left others n e = let l = ap length e in omega (arith, length-append (number_octets n) others, length-append (leading_octets (n / 128)) (n % 128 ∷ []))

-- ---- tests of lengths

pub tested_some : (b : Bool) (n : ℕ) → b ≡ (n == 0) → b ≡ false → 0 < n
tested_some b zero e f = let no : true ≡ false = sym e ∙ f in absurd (cc)
tested_some b (suc n) e f = omega arith

pub tested_none : (b : Bool) (n : ℕ) → b ≡ (n == 0) → b ≡ true → n ≡ 0
tested_none b n e f = grind (arith, nat_tests)

-- whether the text that is left is empty
pub compared : (contents left text rest : List ℕ) (is_first b : Bool) → MatchedSoFar contents left text rest is_first → is_first ≡ false → length left ≡ 0 → b ≡ (length rest == 0) → Matches contents text b
compared contents left text rest is_first true s first none e = all_matched contents left text rest is_first s first none (tested_none true (length rest) e refl)
compared contents left text rest is_first false s first none e = not_ended contents left text rest is_first s none (tested_some false (length rest) e refl)

pub is_answer : (contents text : List ℕ) (b : Bool) (answer : ℕ) → Matches contents text b → answer ≡ bit b → AnswersIs contents text answer
is_answer contents text true answer m e = inl (m, e)
is_answer contents text false answer m e = inr (m, e)
