-- The anchor's key, with its own parameters.
use Rattle.std.proofs.Common.{◌≡◌, None, ap, refl, sym, subst, ◌∙◌}
use Rattle.der_opaque.specs.ObjectIdentifierRef.{octets_of}
use Rattle.der_pkix.specs.Certificate.SubjectPublicKeyInfo as key_fields
use Rattle.der_pkix.specs.declared.algorithm_identifier.AlgorithmIdentifier.{AlgorithmIdentifier}
use Rattle.der_pkix.specs.declared.certificate.subject_public_key_info.SubjectPublicKeyInfo.{SubjectPublicKeyInfo}
use Rattle.der_path.specs.Keys.{non_null}
use Rattle.der_c.specs.contracts.path.meanings.MeaningsMeantAnyRef.TheImpl as any_form
use Rattle.der_c.specs.contracts.path.meanings.MeaningsMeantSubjectPublicKeyInfo.TheImpl as key_form
use Rattle.der_c.specs.ChainPlaces.{Holds, HoldsIfThere}
use Rattle.der_c.proofs.ChainReading.{own_alone}
use Rattle.der_c.proofs.path.places.first_key.Goals as goal

pub returns : goal.returns
returns c a is fits holds =
    let octets = c.args.octets.now in
    let how = c.algorithm-algorithm.ensures in
    let same : key_fields.algorithm c.args.key.now ≡ key_fields.algorithm a.key = ap key_fields.algorithm (sym is) in
    let own = subst (λ (w : AlgorithmIdentifier). HoldsIfThere any_form.ghosts.FORM octets c.own_parameters-own.result w.parameters) (sym how) (c.own_parameters-own.ensures fits holds) in
    let found = own_alone any_form.ghosts.FORM octets c.own_or.result (non_null c.algorithm-algorithm.result.now.parameters) (c.own_or.ensures octets None own refl) in
    record {
      key = subst (λ k. Holds key_form.ghosts.FORM octets c.args.place k) (sym is) holds;
      algorithm = c.as_bytes.ensures.value ∙ ap (λ (w : AlgorithmIdentifier). octets_of w.oid) (how ∙ same);
      parameters = subst (λ (w : AlgorithmIdentifier). HoldsIfThere any_form.ghosts.FORM octets c.own_or.result (non_null w.parameters)) (how ∙ same) found;
    }
