-- The items of RecipientInfos.
-- Made by tools/asn1 from enveloped.asn1.
use Rattle.der_enveloped.specs.declared.enveloped.recipient_info.RecipientInfo.{RecipientInfo}
use Rattle.der_enveloped.specs.declared.enveloped.recipient_infos.RecipientInfos.{RecipientInfos}
use Rattle.der_lists.specs.declared.unordered_set_ref.UnorderedSetRef.{UnorderedSetRef}

abbrev pub items_of : RecipientInfos → UnorderedSetRef RecipientInfo
items_of v = v.items.list
