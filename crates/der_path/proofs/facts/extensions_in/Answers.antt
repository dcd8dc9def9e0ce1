use Rattle.std.proofs.Common.{◌<◌, ◌^◌, ◌≡◌, length, ap, sym, subst, ◌∙◌, Some}
use Rattle.std.specs.Prelude.{option_copied, Vec}
use Rattle.std.specs.declared.alloc.Global.{Global}
use Rattle.der_lists.specs.Items.{AreItems}
use Rattle.der_lists.specs.ListRef as list
use Rattle.der_pkix.specs.declared.certificate.extension.Extension.{Extension}
use Rattle.der_verify.specs.Rfc5280.{AreListed}
use Rattle.der_verify.specs.Shown.{AreShown}
use Rattle.der_path.specs.contracts.meanings.MeaningsMeantExtension.TheImpl as extension_form
use Rattle.der_path.specs.Extensions.{Alike}
use Rattle.der_path.proofs.Alike.{if_ok, kept_alike}
use Rattle.der_path.proofs.facts.extensions_in.Goals as goal

pub returns-in-Some : goal.returns-in-Some
returns-in-Some c = λ listed a.
    if_ok (λ (kept : Vec Extension Global). AreShown extension_form.ghosts.FORM (λ v x. x ≡ v) c.as_bytes.result.now kept.items) (λ (kept : Vec Extension Global). Alike listed kept.items)
    (λ kept shown. kept_alike c.as_bytes.result.now listed kept.items
    (subst (λ o. length o < 2 ^ 32) (sym c.as_bytes.ensures) c.items.result.now.octets.short)
    (subst (λ o. AreItems extension_form.ghosts.FORM o listed) (sym (c.as_bytes.ensures ∙ ap list.octets_of c.items.ensures))
    (subst (λ x. AreListed extension_form.ghosts.FORM x listed) (ap option_copied c.in-Some.is) a))
    shown)
    c.keep_items.result c.keep_items.ensures
