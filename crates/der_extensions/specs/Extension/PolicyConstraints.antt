-- The fields of PolicyConstraints, by their names.
-- Made by tools/asn1 from extension.asn1.
use Rattle.std.specs.Prelude.{Option, option_map}
use Rattle.der_extensions.specs.declared.extension.policy_constraints.PolicyConstraints.{PolicyConstraints}
use Rattle.der_numbers.specs.declared.uint_ref.UintRef.{UintRef}

-- requireExplicitPolicy [0] SkipCerts OPTIONAL
abbrev pub require_explicit_policy : PolicyConstraints → Option UintRef
require_explicit_policy v = option_map (λ x. x.value) v.fields.list.first

-- inhibitPolicyMapping [1] SkipCerts OPTIONAL
abbrev pub inhibit_policy_mapping : PolicyConstraints → Option UintRef
inhibit_policy_mapping v = option_map (λ x. x.value) v.fields.list.rest.first
