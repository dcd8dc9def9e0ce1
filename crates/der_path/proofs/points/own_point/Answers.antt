use Rattle.std.proofs.Common.{[], ◌∷◌, ◌++◌, refl, ap, ◌∙◌}
use Rattle.der_path.specs.declared.names.PathName.TheVariants as kept
use Rattle.der_path.proofs.points.own_point.Goals as goal

pub returns : goal.returns
returns c = record {
  parts = c.in_ok-parts.parts;
  are_parts = c.in_ok-parts.ensures;
  names = c.push.new.self;
  are_names = c.in_ok-push.ensures.items ∙ ap (λ l. l ++ kept.Directory c.in_ok-parts.parts ∷ []) c.new-names.ensures.items;
  name = refl;
  reasons = refl;
  issuers = refl;
}
