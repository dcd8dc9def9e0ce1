use Rattle.std.proofs.Common.{◌≡◌, ◌≢◌, ◌++◌, List, ℕ, Option, Some, None, MatchOption}
use Rattle.std.specs.Borrow.{Bor}
use Rattle.std.proofs.lemmas.Bool.Decides.{Decides-eqb}
use Rattle.std.proofs.lemmas.Slice.Eq.{strip_prefix_is}
use Rattle.der_c.specs.Dotted.{Strips}
use Rattle.der_c.proofs.identifiers.behind.Goals as goal

strips : (text beginning : List ℕ) (found : Option (Bor (List ℕ))) → MatchOption found ((rest : List ℕ) → text ≢ beginning ++ rest) (λ x. text ≡ beginning ++ x.now) → Strips text beginning found
strips text beginning None h = h
strips text beginning (Some others) h = h

pub returns : goal.returns
returns c = strips c.args.text.now c.args.beginning.now c.strip_prefix.result (strip_prefix_is Decides-eqb c.args.text.now c.args.beginning.now c.strip_prefix.result c.strip_prefix.ensures.cases)
