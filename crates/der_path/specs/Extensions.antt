-- The extensions of a certificate, as they are kept.
use Rattle.std.specs.Prelude.{◌≡◌, ℕ, List, [], ◌∷◌, Bool, if◌then◌else◌, Option, Some, None, Result, Ok, Err}
use Rattle.std.specs.List.{list_any}
use Rattle.der_pkix.specs.declared.certificate.extension.Extension.{Extension}
use Rattle.der_verify.specs.Extensions.{has_identifier}
use Rattle.der_verify.specs.Shown.{Encodes, ShowEach}
use Rattle.der_path.specs.contracts.meanings.MeaningsMeantExtension.TheImpl as extension_form
use Rattle.der_path.specs.declared.facts.NoFacts.{NoFacts}
use Rattle.der_path.specs.declared.facts.NoFacts.TheVariants as none

-- two lists of extensions with the same encodings
abbrev pub Alike : List Extension → List Extension → Type 0
Alike = ShowEach (Encodes extension_form.ghosts.FORM)

abbrev pub only : Extension → Bool → Result (Option Extension) NoFacts
only e is_repeated = if is_repeated then Err none.Unread else Ok (Some e)

-- the only extension with an identifier, if there is one; two or more are an error
abbrev pub only_extension : List ℕ → List Extension → Result (Option Extension) NoFacts
only_extension identifier [] = Ok None
only_extension identifier (e ∷ others) =
    if has_identifier identifier e then only e (list_any (has_identifier identifier) others) else only_extension identifier others
