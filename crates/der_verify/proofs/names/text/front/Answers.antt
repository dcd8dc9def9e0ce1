-- A string that begins with a space.
use Rattle.der_verify.proofs.Spaces.{end_after, fewer, space_before}
use Rattle.der_verify.proofs.names.text.front.Goals as goal

pub returns-then-others-eq0 : goal.returns-then-others-eq0
returns-then-others-eq0 c =
    end_after c.args.octets.now c.skip_spaces-others.result.now _ c.in-len1-up.len_at_least c.if-first-ne32.false c.skip_spaces-others.ensures c.if-others-eq0.true

pub returns : goal.returns
returns c = (
  space_before c.args.octets.now c.skip_spaces-others.result.now _ c.in-len1-up.len_at_least c.if-first-ne32.false c.skip_spaces-others.ensures c.if-others-eq0.false,
  fewer c.args.octets.now c.skip_spaces-others.result.now c.in-len1-up.len_at_least c.skip_spaces-others.ensures,
)
