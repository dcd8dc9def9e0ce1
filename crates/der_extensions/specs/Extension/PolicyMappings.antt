-- The items of PolicyMappings.
-- Made by tools/asn1 from extension.asn1.
use Rattle.der_extensions.specs.declared.extension.policy_mapping.PolicyMapping.{PolicyMapping}
use Rattle.der_extensions.specs.declared.extension.policy_mappings.PolicyMappings.{PolicyMappings}
use Rattle.der_lists.specs.declared.list_ref.ListRef.{ListRef}

abbrev pub items_of : PolicyMappings → ListRef PolicyMapping
items_of v = v.items.list
