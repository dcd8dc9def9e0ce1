use Rattle.std.proofs.Common.{ℕ, List, arith, subst}
use Rattle.std.specs.List.{flat_map}
use Rattle.der_opaque.specs.AnyRef.{contents_of, tag_of}
use Rattle.der_c.specs.AttributeText.{hex_pair}
use Rattle.der_c.specs.RoomText.{Puts}
use Rattle.der_c.proofs.AttributeParts.{encoding_put}
use Rattle.der_c.proofs.attribute_text.put_hexadecimal.Goals as goal

pub returns : goal.returns
returns c =
    let P : List ℕ → Type 0 = λ t. Puts (flat_map hex_pair t) c.put_header-next.new.room c.put_header-next.result c.put_pairs.new.room c.put_pairs.result in
    encoding_put (tag_of c.args.value.now) (contents_of c.args.value.now) c.args.room.now c.put-next.new.room c.put_header-next.new.room c.put_pairs.new.room c.args.position c.put-next.result c.put_header-next.result c.put_pairs.result (omega arith) (omega arith)
    c.put-next.ensures c.put_header-next.ensures (subst P c.value.ensures c.put_pairs.ensures)
