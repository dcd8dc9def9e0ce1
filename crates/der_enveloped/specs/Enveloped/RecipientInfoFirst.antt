-- The alternatives of the first alternatives of RecipientInfo, as a tree.
-- Made by tools/asn1 from enveloped.asn1.
use Rattle.der_enveloped.specs.declared.enveloped.kek_recipient_info.KekRecipientInfo.{KekRecipientInfo}
use Rattle.der_enveloped.specs.declared.enveloped.key_agree_recipient_info.KeyAgreeRecipientInfo.{KeyAgreeRecipientInfo}
use Rattle.der_enveloped.specs.declared.enveloped.key_trans_recipient_info.KeyTransRecipientInfo.{KeyTransRecipientInfo}
use Rattle.der_enveloped.specs.declared.enveloped.recipient_info_first.RecipientInfoFirst.{RecipientInfoFirst}
use Rattle.der_enveloped.specs.declared.enveloped.recipient_info_first.RecipientInfoFirst.TheVariants as of
use Rattle.der_fields.specs.declared.implicit.ImplicitIn.{ImplicitIn}
use Rattle.der_fields.specs.declared.one_of.OneOf.{OneOf}
use Rattle.der_fields.specs.declared.one_of.OneOf.TheVariants.{First, Other}

abbrev pub tree_of : RecipientInfoFirst → (OneOf (OneOf KeyTransRecipientInfo (ImplicitIn KeyAgreeRecipientInfo 2 1)) (ImplicitIn KekRecipientInfo 2 2))
tree_of (of.Ktri v) = First (First v)
tree_of (of.Kari v) = First (Other v)
tree_of (of.Kekri v) = Other v
