-- The fields of NameConstraints, by their names.
-- Made by tools/asn1 from extension.asn1.
use Rattle.std.specs.Prelude.{Option, option_map}
use Rattle.der_extensions.specs.declared.extension.general_subtrees.GeneralSubtrees.{GeneralSubtrees}
use Rattle.der_extensions.specs.declared.extension.name_constraints.NameConstraints.{NameConstraints}

-- permittedSubtrees [0] GeneralSubtrees OPTIONAL
abbrev pub permitted_subtrees : NameConstraints → Option GeneralSubtrees
permitted_subtrees v = option_map (λ x. x.value) v.fields.list.first

-- excludedSubtrees [1] GeneralSubtrees OPTIONAL
abbrev pub excluded_subtrees : NameConstraints → Option GeneralSubtrees
excluded_subtrees v = option_map (λ x. x.value) v.fields.list.rest.first
