use Rattle.std.proofs.Common.{rules, true}
use Rattle.der_wrap.specs.TaggedValueLaws.{class_tag-with}
use Rattle.der_wrap.proofs.class_tag.explicit_number.Goals as goal

pub returns : goal.returns
returns c = class_tag-with c.args.bits c.args.tag true c.number.result.0 (search rules) (search rules) c.number.ensures.value
