-- Any two algorithms are comparable, so they are equal if and only if their encodings are.
use Rattle.std.proofs.Common.{◌≡◌, Option, Some, None, true, ap, IsTrue, ◌↔◌}
use Rattle.der_tlv.specs.declared.tag.Tag.{Tag}
use Rattle.der_tlv.specs.declared.tag.Tag.TheVariants.{Sequence}
use Rattle.der_elem.specs.Options.{comparable_option, first_tag_option}
use Rattle.der_fields.specs.FieldLists.{Distinguished}
use Rattle.der_tlv.specs.HeaderOctets.{tlv}
use Rattle.der_tlv.specs.HeaderLaws.{tlv-injective}
use Rattle.der_opaque.specs.declared.any_ref.AnyRef.{AnyRef}
use Rattle.der_pkix.specs.declared.algorithm_identifier.AlgorithmIdentifier.{AlgorithmIdentifier}
use Rattle.der_pkix.specs.contracts.algorithm_identifier.AlgorithmIdentifierFormValue.TheImpl as form
use Rattle.der_pkix.specs.contracts.algorithm_identifier.AlgorithmIdentifierPartialEq.TheImpl as equality
use Rattle.der_pkix.specs.contracts.algorithm_identifier.AlgorithmIdentifierContentsEq.TheImpl.Laws as laws

any_parameters : (p q : Option AnyRef) → comparable_option (λ (v w : AnyRef). Unit {0}) p q
any_parameters None q = tt
any_parameters (Some v) None = tt
any_parameters (Some v) (Some w) = tt

nothing_follows : (p : Option AnyRef) → Distinguished (λ (t : Tag). true) (first_tag_option (λ (v : AnyRef). Some v.tag) p) None
nothing_follows None = tt
nothing_follows (Some v) = tt

comparable : (v w : AlgorithmIdentifier) → form.ghosts.value.comparable v w
comparable v w = (tt, (any_parameters v.parameters w.parameters, tt, nothing_follows v.parameters, nothing_follows w.parameters), tt, tt)

pub equal_encodings : (v w : AlgorithmIdentifier) → IsTrue (equality.ghosts.eq v w) ↔ (tlv Sequence (form.ghosts.value.contents v) ≡ tlv Sequence (form.ghosts.value.contents w))
equal_encodings v w =
    let law = laws.contents_eq-law v w (comparable v w) in
    (λ i. ap (tlv Sequence) (law.0 i), λ e. law.1 (tlv-injective Sequence Sequence (form.ghosts.value.contents v) (form.ghosts.value.contents w) e).1)
