-- The alternatives of RecipientInfo, as a tree.
-- Made by tools/asn1 from enveloped.asn1.
use Rattle.der_enveloped.specs.declared.enveloped.recipient_info.RecipientInfo.{RecipientInfo}
use Rattle.der_enveloped.specs.declared.enveloped.recipient_info.RecipientInfo.TheVariants as of
use Rattle.der_enveloped.specs.declared.enveloped.recipient_info_first.RecipientInfoFirst.{RecipientInfoFirst}
use Rattle.der_enveloped.specs.declared.enveloped.recipient_info_first.RecipientInfoFirst.TheVariants as recipient_info_first
use Rattle.der_enveloped.specs.declared.enveloped.recipient_info_other.RecipientInfoOther.{RecipientInfoOther}
use Rattle.der_enveloped.specs.declared.enveloped.recipient_info_other.RecipientInfoOther.TheVariants as recipient_info_other
use Rattle.der_fields.specs.declared.one_of.OneOf.{OneOf}
use Rattle.der_fields.specs.declared.one_of.OneOf.TheVariants.{First, Other}

abbrev pub tree_of : RecipientInfo → (OneOf RecipientInfoFirst RecipientInfoOther)
tree_of (of.Ktri v) = First (recipient_info_first.Ktri v)
tree_of (of.Kari v) = First (recipient_info_first.Kari v)
tree_of (of.Kekri v) = First (recipient_info_first.Kekri v)
tree_of (of.Pwri v) = Other (recipient_info_other.Pwri v)
tree_of (of.Ori v) = Other (recipient_info_other.Ori v)
