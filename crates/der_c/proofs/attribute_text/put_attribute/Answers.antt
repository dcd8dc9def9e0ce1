use Rattle.std.proofs.Common.{arith}
use Rattle.der_opaque.specs.AnyRef.{contents_of, tag_of}
use Rattle.der_c.proofs.AttributeParts.{dotted_put, named_put}
use Rattle.der_c.proofs.attribute_text.put_attribute.Goals as goal

pub returns-in-Some : goal.returns-in-Some
returns-in-Some c = named_put c.args.identifier.now c.in-Some.name.now (tag_of c.args.value.now) (contents_of c.args.value.now) c.args.room.now c.put-next.new.room c.put-next-in-Some.new.room c.put_value.new.room c.args.position c.put-next.result c.put-next-in-Some.result c.put_value.result (omega arith) (omega arith) c.in-Some.ensures c.put-next.ensures c.put-next-in-Some.ensures c.put_value.ensures

pub returns-in-None : goal.returns-in-None
returns-in-None c = dotted_put c.args.identifier.now (tag_of c.args.value.now) (contents_of c.args.value.now) c.args.room.now c.put_type-next.new.room c.put-next-in-None.new.room c.put_hexadecimal.new.room c.args.position c.put_type-next.result c.put-next-in-None.result c.put_hexadecimal.result (omega arith) (omega arith) c.in-None.ensures c.put_type-next.ensures c.put-next-in-None.ensures c.put_hexadecimal.ensures
