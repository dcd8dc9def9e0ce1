-- The value that each item of a list shows: an extension shows itself, and a part of a name its attributes.
use Rattle.std.specs.Prelude.{◌≡◌, ℕ, List, [], ◌∷◌}
use Rattle.std.proofs.Common.{◌∙◌, refl}
use Rattle.der_tlv.specs.ReaderState.{ReaderState}
use Rattle.der_elem.specs.declared.form.Form as form
use Rattle.der_lists.specs.Items.{AreItems, AreToCome}

-- each item shows the value at its index
abbrev pub ShowEach : {T X : Type 0} → (T → X → Type 0) → List T → List X → Type 0
ShowEach shows [] [] = Unit {0}
ShowEach shows (v ∷ vs) (x ∷ xs) = shows v x × ShowEach shows vs xs
ShowEach shows [] (x ∷ xs) = ⊥
ShowEach shows (v ∷ vs) [] = ⊥

-- the octets encode items that show these values
pub record AreShown {T X : Type 0} (F : form.Ghosts T) (shows : T → X → Type 0) (octets : List ℕ) (shown : List X) : Type 0 where
  pub items : List T
  pub are : AreItems F octets items
  pub show : ShowEach shows items shown

-- the items that are left show these values
pub record ShownToCome {T X : Type 0} (F : form.Ghosts T) (shows : T → X → Type 0) (now : ReaderState) (shown : List X) : Type 0 where
  pub items : List T
  pub are : AreToCome F now items
  pub show : ShowEach shows items shown

-- an item shows each item with the same encoding
abbrev pub Encodes : {T : Type 0} → form.Ghosts T → T → T → Type 0
Encodes F v x = F.encoding x ≡ F.encoding v

pub encodes_too : {T : Type 0} (F : form.Ghosts T) (v w x : T) → F.encoding v ≡ F.encoding w → Encodes F v x → Encodes F w x
encodes_too F v w x e s = s ∙ e

pub encodes_beside : {T : Type 0} (F : form.Ghosts T) (v w x : T) (Other : Type 0) → F.encoding v ≡ F.encoding w → Encodes F v x × Other → Encodes F w x × Other
encodes_beside F v w x Other e s = (s.0 ∙ e, s.1)

pub show_themselves : {T : Type 0} (F : form.Ghosts T) (items : List T) → ShowEach (Encodes F) items items
show_themselves F [] = tt
show_themselves F (v ∷ vs) = (refl, show_themselves F vs)
