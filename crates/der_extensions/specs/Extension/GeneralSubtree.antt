-- The fields of GeneralSubtree, by their names.
-- Made by tools/asn1 from extension.asn1.
use Rattle.std.specs.Prelude.{Option, option_map, ℕ}
use Rattle.der_extensions.specs.declared.extension.general_name.GeneralName.{GeneralName}
use Rattle.der_extensions.specs.declared.extension.general_subtree.GeneralSubtree.{GeneralSubtree}

-- base GeneralName
abbrev pub base : GeneralSubtree → GeneralName
base v = v.fields.list.first

-- minimum [0] BaseDistance DEFAULT 0
abbrev pub minimum : GeneralSubtree → ℕ
minimum v = v.fields.list.rest.first.value.value

-- maximum [1] BaseDistance OPTIONAL
abbrev pub maximum : GeneralSubtree → Option ℕ
maximum v = option_map (λ x. x.value) v.fields.list.rest.rest.first
