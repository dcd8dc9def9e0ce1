-- Values of a recursive type, to a depth.
use Rattle.std.specs.Prelude.{◌≡◌, ℕ, zero, suc, ◌<◌, ◌^◌, List, [], length}
use Rattle.std.specs.List.{All}
use Rattle.der_tlv.specs.declared.encoding_rules.EncodingRules.TheVariants.{Der}
use Rattle.der_elem.specs.declared.form.Form as form
use Rattle.der_elem.specs.Items.{AcceptsItems}

module _ {T : Type 0} (F : form.Ghosts T) (held : T → List (List ℕ)) where
  -- the octets are encodings of values, one after another, and the octets that each value holds are as wanted
  pub record AreValues (Wanted : List ℕ → Type 0) (octets : List ℕ) : Type 0 where
    pub values : List T
    pub fits : length octets < 2 ^ 32
    pub accepted : AcceptsItems (F.accepts Der) values octets
    pub within : All (λ v. All Wanted (held v)) values

  -- Octets are values to a depth. To 0 there are no octets. To n + 1 they are values, and the octets that each holds are values to n.
  unfoldable pub AreValuesTo : ℕ → List ℕ → Type 0
  AreValuesTo zero octets = octets ≡ []
  AreValuesTo (suc n) octets = AreValues (AreValuesTo n) octets
