-- The value of a NonEmptyRef that a caller sees, and the reason why there is none.
use Rattle.std.specs.Prelude.{◌≡◌, ◌⊎◌, ℕ, List, [], Bool}
use Rattle.der_tlv.specs.declared.error.ErrorKind.{ErrorKind}
use Rattle.der_tlv.specs.declared.error.ErrorKind.TheVariants.{Value}
use Rattle.der_tlv.specs.declared.tag.Tag.{Tag}
use Rattle.der_elem.specs.Encoding.{Stops}
use Rattle.der_lists.specs.declared.non_empty_ref.NonEmptyRef.{NonEmptyRef}

-- the list
abbrev pub list_of : {L : Type 0} → NonEmptyRef L → L
list_of some = some.list

-- the list has no item (13), or it cannot be measured
abbrev pub RefusesNone : Tag → List ℕ → Bool → ErrorKind → Type 0
RefusesNone tag contents re_reads kind = ((kind ≡ Value tag) × (contents ≡ [])) ⊎ Stops contents re_reads kind
