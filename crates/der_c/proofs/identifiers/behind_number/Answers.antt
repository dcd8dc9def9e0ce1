use Rattle.std.proofs.Common.{ℕ, List, ◌∙◌, subst}
use Rattle.der_c.specs.Dotted.{Strips}
use Rattle.der_c.proofs.identifiers.behind_number.Goals as goal

pub returns : goal.returns
returns c = let P : List ℕ → Type 0 = λ t. Strips c.args.text.now t c.behind.result in subst P (c.as_bytes.ensures.value ∙ c.format.ensures.text) c.behind.ensures
