-- Extensions with the same encoding are processed alike.
use Rattle.std.specs.Prelude.{◌≡◌, not, ◌&&◌}
use Rattle.std.proofs.Common.{ap, ◌∙◌}
use Rattle.der_opaque.specs.ObjectIdentifierRef as identifier
use Rattle.der_pkix.specs.Certificate.Extension as extension
use Rattle.der_pkix.specs.declared.certificate.extension.Extension.{Extension}
use Rattle.der_verify.specs.EqualEncodings.{same_extension}
use Rattle.der_path.specs.contracts.meanings.MeaningsMeantExtension.TheImpl as form
use Rattle.der_path.specs.RevocationFacts.{is_processed_in_entry, is_processed_in_list, is_unknown_in_entry, is_unknown_in_list}

pub alike_in_list : (v w : Extension) → form.ghosts.FORM.encoding v ≡ form.ghosts.FORM.encoding w → is_unknown_in_list v ≡ is_unknown_in_list w
alike_in_list v w e =
    let s = same_extension v w e in
    ap (λ b. b && not (is_processed_in_list (identifier.octets_of (extension.extn_id v)))) s.critical
    ∙ ap (λ o. extension.critical w && not (is_processed_in_list o)) s.identifier

pub alike_in_entry : (v w : Extension) → form.ghosts.FORM.encoding v ≡ form.ghosts.FORM.encoding w → is_unknown_in_entry v ≡ is_unknown_in_entry w
alike_in_entry v w e =
    let s = same_extension v w e in
    ap (λ b. b && not (is_processed_in_entry (identifier.octets_of (extension.extn_id v)))) s.critical
    ∙ ap (λ o. extension.critical w && not (is_processed_in_entry o)) s.identifier
