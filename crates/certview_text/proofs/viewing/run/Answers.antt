use Rattle.std.proofs.Common.{◌≡◌, ℕ, List, Option, Some, None, Result, Ok, Err, subst, ◌∙◌, IfSome, OnOk}
use Rattle.certview_text.specs.Shown.{IsShown}
use Rattle.certview_text.proofs.viewing.run.Goals as goal

-- what is known of octets is known of the whole input
on_read : {A E : Type 0} (P : List ℕ → Type 0) (r : Result A E) (all : Option (List ℕ)) (octets items : List ℕ) → octets ≡ items → IfSome all (λ text. items ≡ text) → OnOk r (P octets) → OnOk r (IfSome all P)
on_read P (Ok a) (Some text) octets items e read shown = subst P (e ∙ read) shown
on_read P (Ok a) None octets items e read shown = tt
on_read P (Err x) all octets items e read shown = tt

pub returns-clause-read : goal.returns-clause-read
returns-clause-read g c = on_read IsShown c.show.result (g.R.Read.remaining c.args.input.now) _ _ c.as_slice.ensures.value c.in_ok-octets.ensures c.show.ensures.read
