use Rattle.std.proofs.Common.{ℕ, List, ◌∙◌, subst}
use Rattle.der_c.specs.RoomText.{Puts}
use Rattle.der_c.proofs.identifiers.put_number.Goals as goal

pub returns : goal.returns
returns c = let P : List ℕ → Type 0 = λ t. Puts t c.args.room.now c.args.position c.put.new.room c.put.result in subst P (c.as_bytes.ensures.value ∙ c.format.ensures.text) c.put.ensures
