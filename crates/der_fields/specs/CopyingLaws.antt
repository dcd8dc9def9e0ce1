-- Copies of fields have the properties of the fields.
use Rattle.std.proofs.Common.{◌≡◌, ℕ, List, ◌++◌, Bool, ◌||◌, Option, ap, ◌∙◌}
use Rattle.der_tlv.specs.declared.tag.Tag.{Tag}
use Rattle.der_elem.specs.FirstTags.{Starts}
use Rattle.der_fields.specs.FieldLists.{Distinguished}
use Rattle.der_fields.specs.DistinguishingLaws.{same_first_tag, same_distinguished}

pub copy_both : (a b c d : List ℕ) → b ≡ a → d ≡ c → b ++ d ≡ a ++ c
copy_both a b c d e f = ap (λ b. b ++ d) e ∙ ap (λ d. a ++ d) f

pub copy_comparable_both : (tags : Tag → Bool) (l m next next' : Option Tag) (a b c d : List ℕ) → Starts l a → Starts m b → Starts next c → Starts next' d → b ≡ a → d ≡ c → Distinguished tags l next → Distinguished tags m next'
copy_comparable_both tags l m next next' a b c d s r s' r' e f h = same_distinguished tags l m next next' (same_first_tag m l b a r s e) (same_first_tag next' next d c r' s' f) h

pub copy_re_read_both : {a b c d : Bool} → b ≡ a → d ≡ c → (b || d) ≡ (a || c)
copy_re_read_both {a} {b} {c} {d} e f = ap (λ b. b || d) e ∙ ap (λ d. a || d) f
