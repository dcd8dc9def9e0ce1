-- The text of a name in a buffer.
use Rattle.std.proofs.Common.{◌≡◌, ℕ, ◌+◌, ◌-◌, ◌^◌, ◌<◌, ◌≤◌, List, [], ◌∷◌, ◌++◌, length, drop, refl, sym, ap, ◌∙◌, arith, subst}
use Rattle.std.proofs.lemmas.List.{take_all}
use Rattle.der_opaque.specs.AnyRef.{contents_of, tag_of}
use Rattle.der_opaque.specs.declared.any_ref.AnyRef.{AnyRef}
use Rattle.der_c.specs.Answers.{NoFault, fault_of_call}
use Rattle.der_c.specs.AttributeText.{IsAttributeText}
use Rattle.der_c.specs.Joined.{last_first}
use Rattle.der_c.specs.NameText.{NameFilled, NameTooLong}
use Rattle.der_c.specs.RoomText.{Ends, Puts, counted, over}
use Rattle.der_c.specs.declared.fault.Fault.{Fault}
use Rattle.der_c.proofs.JoinedParts.{over_whole}
use Rattle.der_c.proofs.RoomTexts.{text_ended}

too_long : (size count room : ℕ) → count ≡ counted size → room ≤ count → room ≤ size
too_long size count room e h = omega arith

pub name_too_long : (text old : List ℕ) (texts : List (List ℕ)) (count : ℕ) (fault : Fault) (answer : ℕ) → text ≡ last_first texts → count ≡ counted (length (last_first texts)) → length old ≤ count → answer ≡ 103 → fault ≡ fault_of_call 103 → NameTooLong text old old count fault answer
name_too_long text old texts count fault answer is size long number written =
    let counts : count ≡ counted (length text) = size ∙ ap (λ t. counted (length t)) (sym is) in
    record { long = too_long (length text) count (length old) counts long; unchanged = refl; count_is = counts; number = number; written = written }

whole : (size count room : ℕ) → room < 2 ^ 64 → count ≡ counted size → count < room → count ≡ size
whole size count room few e h = omega arith

pub name_filled : (text old mid new : List ℕ) (texts : List (List ℕ)) (count : ℕ) (fault : Fault) → length old < 2 ^ 64 → text ≡ last_first texts → count ≡ counted (length (last_first texts)) → count < length old → (count ≡ length (last_first texts) → count ≤ length old → mid ≡ last_first texts ++ drop count old) → Ends count mid new → NameFilled text old new count fault fault 0
name_filled text old mid new texts count fault few is size fits writes ends =
    let all : count ≡ length (last_first texts) = whole (length (last_first texts)) count (length old) few size fits in
    let count_is : count ≡ length text = all ∙ ap length (sym is) in
    let within : length text ≤ length old = omega arith in
    let mid_is : mid ≡ over text old = writes all (omega arith) ∙ ap (λ t. t ++ drop count old) (sym is) ∙ ap (λ k. text ++ drop k old) count_is ∙ sym (over_whole text old within) in
    let put : Puts text old 0 mid count = record { octets_are = mid_is; next_is = at (length text) count (length old) few fits count_is } in
    record {
      fits = omega arith;
      octets_are = text_ended text old mid new count few put ends ∙ ap (λ t. over (t ++ (0 ∷ [])) old) (take_all (length old - 1) text (omega arith));
      count_is = count_is;
      no_fault = record { number = refl; unchanged = refl };
    }
  where
    at : (size count room : ℕ) → room < 2 ^ 64 → count < room → count ≡ size → count ≡ counted (0 + size)
    at size count room few fits e = omega arith

-- the text of an attribute by its type and its value
pub text_of_fields : (i j : List ℕ) (v w : AnyRef) (text : List ℕ) → i ≡ j → v ≡ w → IsAttributeText j (tag_of w) (contents_of w) text → IsAttributeText i (tag_of v) (contents_of v) text
text_of_fields i j v w text same_type same_value s =
    let I : List ℕ → Type 0 = λ i. IsAttributeText i (tag_of w) (contents_of w) text in
    let V : AnyRef → Type 0 = λ v. IsAttributeText i (tag_of v) (contents_of v) text in
    subst V (sym same_value) (subst I (sym same_type) s)
