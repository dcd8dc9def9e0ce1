-- GeneralNames that were read, and whether one of them is wanted.
use Rattle.std.proofs.Common.{◌≡◌, ℕ, ◌+◌, ◌≤◌, ◌<◌, ◌^◌, Bool, List, length, take, drop, Option, sym, ap, ap₂, subst, ◌∙◌, arith}
use Rattle.std.specs.Prelude.{is_some}
use Rattle.std.proofs.Math.Seq.{take-length}
use Rattle.std.proofs.lemmas.List.{length-append}
use Rattle.der_tlv.specs.HeaderOctets.{header_octets}
use Rattle.der_tlv.specs.declared.encoding_rules.EncodingRules.TheVariants.{Der}
use Rattle.der_tlv.specs.declared.tag.Tag.TheVariants as tags
use Rattle.der_elem.specs.Accepting.{Fits, accepts_tagged}
use Rattle.der_elem.specs.declared.form.Form as form
use Rattle.der_extensions.specs.declared.extension.general_name.GeneralName.{GeneralName}
use Rattle.der_lists.specs.Items.{AreItems}
use Rattle.der_lists.specs.ListRef.{octets_of}
use Rattle.der_lists.specs.declared.list_ref.ListRef.{ListRef}
use Rattle.der_nest.specs.BorrowedSequences.{items_format}
use Rattle.der_nest.specs.KeptFormat.{kept_format}
use Rattle.der_places.specs.declared.place.Place.{Place}
use Rattle.der_c.specs.Bits.{bit}
use Rattle.der_c.specs.Building.{octets_at}
use Rattle.der_c.specs.Finding.{IsFirst}
use Rattle.der_c.specs.GeneralNames.{HasOne, HasSome}
use Rattle.der_c.specs.Items.{EndsWithin}
use Rattle.der_c.proofs.Finds.{some_is}

-- a name is found among all octets if one is wanted
pub has_names : {F : form.Ghosts GeneralName} {wanted : GeneralName → Bool} {found : Option (GeneralName × Place)} (octets : List ℕ) (place : Place) → place.offset ≡ 0 → place.length ≡ length octets
    → (Fits octets → EndsWithin octets place → (given : List GeneralName) → AreItems F (octets_at octets place) given → IsFirst F wanted octets place found)
    → Fits octets → (given : List GeneralName) → AreItems F octets given → HasSome F wanted octets (is_some found)
has_names {F = F} {wanted = wanted} octets place begins lasts first fits given a =
    let same : octets_at octets place ≡ octets = ap₂ (λ m n. take n (drop m octets)) begins lasts ∙ take-length octets in
    let ends : place.offset + place.length ≤ length octets = omega arith in
    let one = first fits ends given (subst (λ o. AreItems F o given) (sym same) a) in
    record { names = one.items; are = subst (λ o. AreItems F o one.items) same one.are; has_is = ap is_some one.found_is ∙ some_is F wanted place.offset one.items }

-- the names of a list that was read, which has less octets than all
pub has_one : {F : form.Ghosts GeneralName} {wanted : GeneralName → Bool} (octets shown : List ℕ) (v : ListRef GeneralName) (has : Bool) (answer : ℕ) → accepts_tagged tags.Sequence (kept_format octets_of (items_format F)).accepts Der v octets → Fits octets → shown ≡ octets_of v
    → (length shown < 2 ^ 32 → (given : List GeneralName) → AreItems F shown given → HasSome F wanted shown has) → answer ≡ bit has → HasOne F wanted (octets_of v) answer
has_one {F = F} {wanted = wanted} octets shown v has answer read fits is some told =
    let contents = read.0 in
    let kept = read.2 in
    let count = ap length read.1 ∙ length-append (header_octets tags.Sequence (length contents)) contents in
    let few : length octets < 2 ^ 32 = fits in
    let same : contents ≡ shown = sym kept.own ∙ sym is in
    let size = ap length same in
    let less : length shown < 2 ^ 32 = omega arith in
    let one = some less kept.read.value (subst (λ o. AreItems F o kept.read.value) same kept.read.accepted) in
    record { has = has; some = subst (λ o. HasSome F wanted o has) is one; answer_is = told }
