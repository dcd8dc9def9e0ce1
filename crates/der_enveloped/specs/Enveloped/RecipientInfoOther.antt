-- The alternatives of the other alternatives of RecipientInfo, as a tree.
-- Made by tools/asn1 from enveloped.asn1.
use Rattle.der_enveloped.specs.declared.enveloped.password_recipient_info.PasswordRecipientInfo.{PasswordRecipientInfo}
use Rattle.der_enveloped.specs.declared.enveloped.recipient_info_other.RecipientInfoOther.{RecipientInfoOther}
use Rattle.der_enveloped.specs.declared.enveloped.recipient_info_other.RecipientInfoOther.TheVariants as of
use Rattle.der_fields.specs.declared.implicit.ImplicitIn.{ImplicitIn}
use Rattle.der_fields.specs.declared.one_of.OneOf.{OneOf}
use Rattle.der_fields.specs.declared.one_of.OneOf.TheVariants.{First, Other}
use Rattle.der_pkix.specs.declared.name.attribute_type_and_value.AttributeTypeAndValue.{AttributeTypeAndValue}

abbrev pub tree_of : RecipientInfoOther → (OneOf (ImplicitIn PasswordRecipientInfo 2 3) (ImplicitIn AttributeTypeAndValue 2 4))
tree_of (of.Pwri v) = First v
tree_of (of.Ori v) = Other v
