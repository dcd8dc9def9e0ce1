-- The items of RevocationInfoChoices.
-- Made by tools/asn1 from cms.asn1.
use Rattle.der_cms.specs.declared.cms.revocation_info_choice.RevocationInfoChoice.{RevocationInfoChoice}
use Rattle.der_cms.specs.declared.cms.revocation_info_choices.RevocationInfoChoices.{RevocationInfoChoices}
use Rattle.der_lists.specs.declared.unordered_set_ref.UnorderedSetRef.{UnorderedSetRef}

abbrev pub items_of : RevocationInfoChoices → UnorderedSetRef RevocationInfoChoice
items_of v = v.items
