use Rattle.std.proofs.Common.{ℕ, List, refl, sym, subst}
use Rattle.der_verify.proofs.ShownItems.{all_shown}
use Rattle.der_c.specs.RoomText.{Puts}
use Rattle.der_c.proofs.name_text.PartTextsItemTextRelativeDistinguishedName.put_text.Goals as goal

pub returns : goal.returns
returns c = λ text is.
    let P : List ℕ → Type 0 = λ t. Puts t c.args.room.now c.args.position c.put_joined.new.room c.put_joined.result in
    subst P (sym is.2) (c.put_joined.ensures refl is.0 (all_shown _ _ _ is.0 _ c.items.result.now.octets.short c.iter.ensures.octets (rw (sym c.items.ensures) at is.1)))
