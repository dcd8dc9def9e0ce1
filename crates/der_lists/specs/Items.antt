-- The items that octets are read as.
use Rattle.std.specs.Prelude.{◌≡◌, ℕ, List, map}
use Rattle.der_tlv.specs.ReaderState.{ReaderState}
use Rattle.der_tlv.specs.declared.encoding_rules.EncodingRules.TheVariants.{Der}
use Rattle.der_elem.specs.declared.form.Form as form
use Rattle.der_nest.specs.Lists.{AcceptsEach}
use Rattle.der_lists.specs.ReadingOn.{HasItems, encodings_to_come}

-- under DER the octets are those of these items, one after another
abbrev pub AreItems : {T : Type 0} → form.Ghosts T → List ℕ → List T → Type 0
AreItems F octets items = AcceptsEach (F.accepts Der) items octets

-- these items are left to read
pub record AreToCome {T : Type 0} (F : form.Ghosts T) (now : ReaderState) (items : List T) : Type 0 where
  pub encodings : map F.encoding items ≡ encodings_to_come F.parse now
  pub has : HasItems F now
